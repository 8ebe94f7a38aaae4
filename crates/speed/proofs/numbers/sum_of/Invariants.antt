use Rattle.std.proofs.Common.{◌≤◌, length}
use Rattle.speed.proofs.numbers.sum_of.Given as goal

-- the place is in the bytes
abbrev pub invariant-loop : goal.invariant-loop
invariant-loop l = l.at ≤ length l.bytes
