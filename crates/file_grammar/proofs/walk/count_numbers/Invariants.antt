use Rattle.std.proofs.Common.{◌-◌, ◌≡◌, ◌≤◌}
use Rattle.obf_wire.specs.Fields.{part_of}
use Rattle.obf_wire.specs.Windows.{range_of}
use Rattle.file_grammar.specs.Readings.{measured, numbers_at}
use Rattle.file_grammar.proofs.walk.count_numbers.Given as goal

abbrev pub invariant-loop-at : goal.invariant-loop-at
invariant-loop-at l =
    (l.at ≤ l.window.to) × (l.window.from ≤ l.at) × (l.count ≤ l.at)
    × (measured 0 (numbers_at (range_of l.window)) ≡ measured l.count (numbers_at (part_of l.window.bytes.now l.at l.window.to)))

abbrev pub decreases-loop-at : goal.decreases-loop-at
decreases-loop-at l = l.window.to - l.at
