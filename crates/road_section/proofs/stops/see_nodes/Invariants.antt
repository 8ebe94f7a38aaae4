use Rattle.std.proofs.Common.{◌≡◌, ◌≤◌, ◌*◌, ◌-◌, ℕ, List, Ok}
use Rattle.obf_wire.specs.Fields.{part_of}
use Rattle.obf_wire.specs.Windows.{range_of}
use Rattle.file_grammar.specs.Readings.{numbers_at}
use Rattle.boxed_exact.specs.Boxes.{box_of}
use Rattle.road_section.specs.Stops.{IsReachedBy, stop_at}
use Rattle.road_section.proofs.StopWalk.{StopsLeft}
use Rattle.road_section.proofs.stops.see_nodes.Given as goal

abbrev pub invariant-loop-triple : goal.invariant-loop-triple
invariant-loop-triple l = record {
  nodes : (numbers : List ℕ) → numbers_at (range_of l.window) ≡ Ok numbers → StopsLeft (box_of l.holder) numbers (stop_at l.stop) l.seen (part_of l.window.bytes.now l.at l.window.to);
  reach : IsReachedBy l.seen.count l.stop;
  few : 3 * l.seen.count ≤ l.at;
  inside : l.at ≤ l.window.to;
}

abbrev pub decreases-loop-triple : goal.decreases-loop-triple
decreases-loop-triple l = l.window.to - l.at
