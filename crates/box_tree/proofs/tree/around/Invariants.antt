use Rattle.std.proofs.Common.{◌≡◌, length, fold}
use Rattle.box_tree.specs.Trees.{around}
use Rattle.live_model.specs.Points.{union}
use Rattle.box_tree.proofs.tree.around.Given as goal

abbrev pub invariant-loop-others : goal.invariant-loop-others
invariant-loop-others l = fold union l.all l.others ≡ around l.boxes

abbrev pub decreases-loop-others : goal.decreases-loop-others
decreases-loop-others l = length l.others
