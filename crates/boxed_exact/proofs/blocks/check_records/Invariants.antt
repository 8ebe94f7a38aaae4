use Rattle.std.proofs.Common.{◌≡◌, ◌≤◌, ◌*◌, ◌-◌, Ok}
use Rattle.obf_wire.specs.Fields.{IsWindow}
use Rattle.file_grammar.specs.declared.parts.Part.TheVariants.{Block as BlockPart}
use Rattle.file_grammar.specs.Messages.{Fields}
use Rattle.file_grammar.specs.Sections.{Block}
use Rattle.file_grammar.specs.Walks.{left_in}
use Rattle.boxed_exact.specs.Records.{AreRecords}
use Rattle.boxed_exact.specs.Boxes.{box_of}
use Rattle.boxed_exact.specs.Sides.{beside}
use Rattle.boxed_exact.specs.Texts.{AreTexts}
use Rattle.boxed_exact.proofs.RecordWalk.{RecordsLeft}
use Rattle.boxed_exact.proofs.blocks.check_records.Given as goal

abbrev pub invariant-loop-field : goal.invariant-loop-field
invariant-loop-field g l = let m = g.C.CheckClass in record {
  records : (fields : Fields) → left_in l.fn.walk ≡ Ok fields → AreRecords fields → (block : Block) → AreTexts l.texts block.texts
      → RecordsLeft m.class m.boxing m.key_of (beside l.around) (box_of l.holder) block fields l.fn.first l.first l.ordinal l.before l.seen l.walk;
  part : l.walk.part ≡ BlockPart m.class;
  window : IsWindow l.walk.window;
  same : l.walk.window.bytes ≡ l.bytes;
  few : l.seen.count ≤ l.walk.window.place;
  reach : l.ordinal ≤ 18446744073709551616 * l.seen.count;
}

abbrev pub decreases-loop-field : goal.decreases-loop-field
decreases-loop-field g l = l.walk.window.end - l.walk.window.place
