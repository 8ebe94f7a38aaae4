use Rattle.std.proofs.Common.{◌-◌, length}
use Rattle.live_board.specs.Events.{AreFolds}
use Rattle.live_board.proofs.desk.Desk.fold_all.Given as goal

abbrev pub invariant-loop : goal.invariant-loop
invariant-loop g l = AreFolds l.initial.self l.self

-- a journal has 262,144 swaps at most
abbrev pub decreases-loop : goal.decreases-loop
decreases-loop g l = 262145 - length l.self
