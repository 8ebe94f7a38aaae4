use Rattle.std.proofs.Common.{[], ap, subst}
use Rattle.layer_table.specs.Layers.{IsMap}
use Rattle.layer_table.proofs.Laying.{rising_under}
use Rattle.layer_table.proofs.layered.Layered.next_after.Goals as goal

pub returns-clause-rising : goal.returns-clause-rising
returns-clause-rising g c =
    subst (IsMap g.K.Ord.cmp) (ap (λ t. t.map) c.self.view_is) (rising_under g.K.Ord.cmp g.met.K.Ord.total [] c.self.inside.layers.items tt)
