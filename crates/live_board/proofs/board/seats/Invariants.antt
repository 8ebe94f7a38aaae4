use Rattle.std.proofs.Common.{◌≡◌, ◌++◌, replicate}
use Rattle.live_board.specs.Known.{fresh}
use Rattle.live_board.proofs.board.seats.Given as goal

abbrev pub invariant-loop-left : goal.invariant-loop-left
invariant-loop-left g l = (l.all.parts ≡ l.left) × (l.all.amount ≡ 0) × (l.list.items ++ replicate l.left fresh ≡ replicate l.initial.left fresh)

abbrev pub decreases-loop-left : goal.decreases-loop-left
decreases-loop-left g l = l.left
