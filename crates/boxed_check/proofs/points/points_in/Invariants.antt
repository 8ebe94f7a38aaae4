use Rattle.std.proofs.Common.{◌≤◌, ◌-◌, ℕ}
use Rattle.std.specs.Prelude.{pos}
use Rattle.obf_wire.specs.Fields.{part_of}
use Rattle.obf_wire.specs.Windows.{range_of}
use Rattle.boxed_exact.specs.Boxes.{box_of}
use Rattle.boxed_check.specs.Points.{ArePointsSeen, IsOnGridSpot, PointsLeft}
use Rattle.boxed_check.proofs.points.points_in.Given as goal

abbrev pub invariant-loop-spot : goal.invariant-loop-spot
invariant-loop-spot l = record {
  suffices : (total : ℕ) → PointsLeft (part_of l.window.bytes.now l.spot.next l.window.to) (box_of l.holder) (pos l.spot.x, pos l.spot.y) l.count total
      → ArePointsSeen (range_of l.window) (box_of l.holder) total;
  spot : IsOnGridSpot l.spot.x l.spot.y;
  inside : l.spot.next ≤ l.window.to;
  few : l.count ≤ l.spot.next;
}

abbrev pub decreases-loop-spot : goal.decreases-loop-spot
decreases-loop-spot l = l.window.to - l.spot.next
