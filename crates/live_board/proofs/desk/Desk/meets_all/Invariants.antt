use Rattle.std.proofs.Common.{length}
use Rattle.std.specs.List.{AllByRecursion}
use mathlib.Core.List.{IsPrefix}
use Rattle.live_board.proofs.desk.Desk.meets_all.Given as goal

abbrev pub invariant-loop-rest : goal.invariant-loop-rest
invariant-loop-rest g l = AllByRecursion (λ p. IsPrefix p.log l.self) l.rest → AllByRecursion (λ p. IsPrefix p.log l.self) l.passes

abbrev pub decreases-loop-rest : goal.decreases-loop-rest
decreases-loop-rest g l = length l.rest
