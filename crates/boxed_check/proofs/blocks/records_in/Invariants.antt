use Rattle.std.proofs.Common.{◌≤◌, ◌-◌, ℕ}
use Rattle.obf_wire.specs.Fields.{part_of}
use Rattle.boxed_exact.specs.Sides.{beside}
use Rattle.boxed_check.specs.Blocks.{AreRecordsSeen, RecordsLeft}
use Rattle.boxed_exact.specs.Boxes.{box_of}
use Rattle.boxed_check.proofs.blocks.records_in.Given as goal

abbrev pub invariant-loop-at : goal.invariant-loop-at
invariant-loop-at g l = let m = g.C.CheckClass in record {
  suffices : (total : ℕ) → RecordsLeft m.class m.boxing m.key_of (beside l.around) (box_of l.holder) (part_of l.window.bytes.now l.at l.window.to) l.texts l.ordinal l.before l.count total
      → AreRecordsSeen m.class m.boxing m.key_of (beside l.around) (box_of l.holder) (part_of l.window.bytes.now l.from l.window.to) l.texts total;
  inside : l.at ≤ l.window.to;
  few : l.count ≤ l.at;
  low : l.ordinal ≤ 4503599627370496;
}

abbrev pub decreases-loop-at : goal.decreases-loop-at
decreases-loop-at g l = l.window.to - l.at
