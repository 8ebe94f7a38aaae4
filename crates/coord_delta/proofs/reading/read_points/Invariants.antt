use Rattle.std.proofs.Common.{◌-◌}
use Rattle.coord_delta.proofs.Walks.{PointsUpTo}
use Rattle.coord_delta.proofs.reading.read_points.Given as goal

abbrev pub invariant-loop-at : goal.invariant-loop-at
invariant-loop-at l = PointsUpTo l.bytes l.from l.at l.to l.points l.last

abbrev pub decreases-loop-at : goal.decreases-loop-at
decreases-loop-at l = l.to - l.at
