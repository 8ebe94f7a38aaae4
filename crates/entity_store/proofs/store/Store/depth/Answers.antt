use Rattle.std.proofs.Common.{ap, subst}
use Rattle.live_model.specs.Stores.{IsRising}
use Rattle.entity_store.proofs.Tagging.{rising_entities}
use Rattle.entity_store.proofs.store.Store.depth.Goals as goal

pub returns-clause-rising : goal.returns-clause-rising
returns-clause-rising c =
    subst IsRising (ap (λ s. s.entities) c.self.view_is) (rising_entities c.self.inside.table.map c.self.invariant.0 c.self.invariant.1)
