use Rattle.std.proofs.Common.{◌≡◌, ◌≤◌, ◌-◌, ℕ, List, Ok}
use Rattle.obf_wire.specs.Fields.{part_of}
use Rattle.obf_wire.specs.Windows.{range_of}
use Rattle.file_grammar.specs.Readings.{numbers_at}
use Rattle.road_section.specs.Readings.{HoldsStops}
use Rattle.road_section.specs.RoadLawful.{stop_of}
use Rattle.road_section.proofs.SegmentWalk.{SegmentsRead}
use Rattle.road_section.proofs.near.meets_segment.Given as goal

abbrev pub invariant-loop-triple : goal.invariant-loop-triple
invariant-loop-triple l = record {
  segments : (numbers : List ℕ) → numbers_at (range_of l.window) ≡ Ok numbers → SegmentsRead l.rect numbers l.node l.before (part_of l.window.bytes.now l.at l.window.to);
  inside : l.at ≤ l.window.to;
  sound : HoldsStops (stop_of l.node) (part_of l.window.bytes.now l.at l.window.to);
}

abbrev pub decreases-loop-triple : goal.decreases-loop-triple
decreases-loop-triple l = l.window.to - l.at
