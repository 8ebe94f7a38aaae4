use Rattle.std.proofs.Common.{◌≡◌, ◌++◌, length}
use Rattle.boxed_write.specs.Classes.{held}
use Rattle.boxed_write.proofs.order.borrowed.Given as goal

-- the items so far, and those that are left
abbrev pub invariant-loop-rest : goal.invariant-loop-rest
invariant-loop-rest g l = held l.all.items ++ l.rest ≡ l.items

abbrev pub decreases-loop-rest : goal.decreases-loop-rest
decreases-loop-rest g l = length l.rest
