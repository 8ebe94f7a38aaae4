use Rattle.std.proofs.Common.{◌≤◌, length}
use Rattle.layer_table.proofs.layered.settled.Given as goal

abbrev pub invariant-loop-rest : goal.invariant-loop-rest
invariant-loop-rest g l = length l.rest ≤ length l.fn.layers

abbrev pub decreases-loop-rest : goal.decreases-loop-rest
decreases-loop-rest g l = length l.rest
