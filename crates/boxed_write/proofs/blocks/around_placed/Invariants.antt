use Rattle.std.proofs.Common.{◌≡◌, length, fold}
use Rattle.box_tree.specs.Trees.{around}
use Rattle.live_model.specs.Points.{union}
use Rattle.boxed_write.specs.Classes.{boxes_of}
use Rattle.boxed_write.proofs.blocks.around_placed.Given as goal

abbrev pub invariant-loop-others : goal.invariant-loop-others
invariant-loop-others g l = fold union l.all (boxes_of l.others) ≡ around (boxes_of l.records)

abbrev pub decreases-loop-others : goal.decreases-loop-others
decreases-loop-others g l = length l.others
