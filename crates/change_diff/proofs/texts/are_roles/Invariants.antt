use Rattle.std.proofs.Common.{length}
use Rattle.std.specs.Prelude.{IsUtf8}
use Rattle.std.specs.List.{AllByRecursion}
use Rattle.change_diff.proofs.texts.are_roles.Given as goal

-- where the roles that are left are UTF-8, all are
abbrev pub invariant-loop-member : goal.invariant-loop-member
invariant-loop-member l = AllByRecursion (λ m. IsUtf8 m.role) l.rest → AllByRecursion (λ m. IsUtf8 m.role) l.members

abbrev pub decreases-loop-member : goal.decreases-loop-member
decreases-loop-member l = length l.rest
