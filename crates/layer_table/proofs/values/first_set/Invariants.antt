use Rattle.std.proofs.Common.{◌≡◌, length}
use Rattle.layer_table.specs.Layers.{values_set}
use Rattle.layer_table.proofs.values.first_set.Given as goal

abbrev pub invariant-loop-value : goal.invariant-loop-value
invariant-loop-value g l = values_set l.rest ≡ values_set l.fn.values

abbrev pub decreases-loop-value : goal.decreases-loop-value
decreases-loop-value g l = length l.rest
