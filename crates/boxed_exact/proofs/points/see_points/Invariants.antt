use Rattle.std.proofs.Common.{◌≡◌, ◌≤◌, ◌*◌, ◌-◌, ℕ, List, Ok}
use Rattle.obf_wire.specs.Fields.{part_of}
use Rattle.obf_wire.specs.Windows.{range_of}
use Rattle.file_grammar.specs.Readings.{numbers_at}
use Rattle.boxed_exact.specs.Boxes.{box_of}
use Rattle.boxed_exact.specs.Numbers.{IsReached}
use Rattle.boxed_exact.proofs.NumberWalk.{PointsLeft}
use Rattle.boxed_exact.proofs.points.see_points.Given as goal

abbrev pub invariant-loop-step : goal.invariant-loop-step
invariant-loop-step l = record {
  points : (numbers : List ℕ) → numbers_at (range_of l.window) ≡ Ok numbers
      → PointsLeft (box_of l.holder) numbers l.spot.x l.spot.y l.seen (part_of l.window.bytes.now l.at l.window.to);
  x : IsReached l.seen.count l.spot.x;
  y : IsReached l.seen.count l.spot.y;
  few : 2 * l.seen.count ≤ l.at;
  inside : l.at ≤ l.window.to;
}

abbrev pub decreases-loop-step : goal.decreases-loop-step
decreases-loop-step l = l.window.to - l.at
