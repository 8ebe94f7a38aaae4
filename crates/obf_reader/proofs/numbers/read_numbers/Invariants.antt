use Rattle.std.proofs.Common.{◌≡◌, ◌≤◌, ◌-◌, ℕ, List, Ok}
use Rattle.obf_wire.specs.Fields.{part_of}
use Rattle.obf_wire.specs.Windows.{range_of}
use Rattle.file_grammar.specs.Readings.{numbers_at}
use Rattle.obf_reader.proofs.NumberLists.{NumbersLeft}
use Rattle.obf_reader.proofs.numbers.read_numbers.Given as goal

abbrev pub invariant-loop-number : goal.invariant-loop-number
invariant-loop-number l = record {
  left : (all : List ℕ) → numbers_at (range_of l.window) ≡ Ok all
      → NumbersLeft all l.numbers.items (part_of l.window.bytes.now l.at l.window.to);
  inside : l.at ≤ l.window.to;
}

abbrev pub decreases-loop-number : goal.decreases-loop-number
decreases-loop-number l = l.window.to - l.at
