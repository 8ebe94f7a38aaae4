use Rattle.std.proofs.Common.{◌≤◌, ◌-◌, ℕ}
use Rattle.obf_wire.specs.Fields.{part_of}
use Rattle.obf_wire.specs.Windows.{range_of}
use Rattle.boxed_check.specs.Blocks.{AreTextsSeen, TextsLeft}
use Rattle.boxed_check.proofs.texts.texts_in.Given as goal

abbrev pub invariant-loop-at : goal.invariant-loop-at
invariant-loop-at l = record {
  suffices : (total : ℕ) → TextsLeft (part_of l.window.bytes.now l.at l.window.to) l.before l.count total → AreTextsSeen (range_of l.window) total;
  inside : l.at ≤ l.window.to;
  few : l.count ≤ l.at;
}

abbrev pub decreases-loop-at : goal.decreases-loop-at
decreases-loop-at l = l.window.to - l.at
