use Rattle.std.proofs.Common.{◌≡◌, length}
use Rattle.live_model.specs.Geometry.{box_around, box_of}
use Rattle.live_model.proofs.points.Rect.around.Given as goal

abbrev pub invariant-loop-others : goal.invariant-loop-others
invariant-loop-others l = box_around l.all l.others ≡ box_of l.fn.first l.fn.others

abbrev pub decreases-loop-others : goal.decreases-loop-others
decreases-loop-others l = length l.others
