use Rattle.std.proofs.Common.{◌↔◌, length}
use Rattle.layer_table.specs.Layers.{IsMap}
use Rattle.layer_table.proofs.layer.is_rising.Given as goal

abbrev pub invariant-loop-first : goal.invariant-loop-first
invariant-loop-first g l = IsMap g.K.Ord.cmp l.rest ↔ IsMap g.K.Ord.cmp l.fn.pairs

abbrev pub decreases-loop-first : goal.decreases-loop-first
decreases-loop-first g l = length l.rest
