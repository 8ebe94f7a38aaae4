use Rattle.std.proofs.Common.{◌≡◌, ◌≤◌, ◌-◌, ℕ, List, Ok}
use Rattle.obf_wire.specs.Fields.{part_of}
use Rattle.obf_wire.specs.Windows.{range_of}
use Rattle.file_grammar.specs.Readings.{numbers_at}
use Rattle.std.specs.Prelude.{pos}
use Rattle.boxed_read.specs.Sound.{HoldsSteps}
use Rattle.boxed_read.proofs.PointWalk.{BoundsRead}
use Rattle.boxed_read.proofs.parts.bounds.Given as goal

abbrev pub invariant-loop-step : goal.invariant-loop-step
invariant-loop-step l = record {
  bounds : (numbers : List ℕ) → numbers_at (range_of l.window) ≡ Ok numbers
      → BoundsRead numbers l.point l.bounds (part_of l.window.bytes.now l.at l.window.to);
  inside : l.at ≤ l.window.to;
  sound : HoldsSteps (pos l.point.x, pos l.point.y) (part_of l.window.bytes.now l.at l.window.to);
}

abbrev pub decreases-loop-step : goal.decreases-loop-step
decreases-loop-step l = l.window.to - l.at
