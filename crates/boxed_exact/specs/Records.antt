-- Records of a block that were checked, whatever their class.
use Rattle.std.specs.Prelude.{◌≡◌, ◌+◌, ℕ, Bool, true, length, flat_map, Option, Some, None, Ok}
use Rattle.std.specs.List.{list_all}
use Rattle.std.specs.Option.{option_map}
use Rattle.live_model.specs.declared.points.Rect.{Rect}
use Rattle.obf_wire.specs.declared.file.FileBreak.{FileBreak}
use Rattle.obf_wire.specs.Fields.{Window}
use Rattle.file_grammar.specs.declared.parts.Boxed.{Boxed}
use Rattle.file_grammar.specs.declared.parts.Part.TheVariants.{Record}
use Rattle.file_grammar.specs.BoxRules.{Beside, Boxing, block_facts, holds_place, points_in, with_before}
use Rattle.file_grammar.specs.Facts.{AllHold, earlier, first_failing}
use Rattle.file_grammar.specs.Messages.{Fields, ends, has_message}
use Rattle.file_grammar.specs.Readings.{message_at}
use Rattle.file_grammar.specs.Sections.{Block, Entry, block_with, entries_from, messages_in, step_of}
use Rattle.boxed_exact.specs.declared.block_texts.BlockTexts.{BlockTexts}
use Rattle.boxed_exact.specs.declared.blocks.BlockSeen.{BlockSeen}
use Rattle.boxed_exact.specs.Texts.{AreTexts}

-- messages behind the key of records
abbrev pub AreRecords : Fields → Type 0
AreRecords ends = Unit {0}
AreRecords (has_message at key inner rest) = (key ≡ 18) × AreRecords rest
AreRecords fields = ⊥

-- the record after another was checked, and seen so
pub record IsRecordChecked {K : Type 0} (boxing : Boxing) (key_of : Entry → K) (beside : Beside) (holder : Rect) (block : Block) (prev : Option Entry) (entry : Entry) (old new : Option FileBreak) (ordinal : ℕ) (key : K) (in_box : Bool) : Type 0 where
  pub asked : new ≡ earlier old (first_failing (boxing.facts beside block (prev, entry)))
  pub ordinal_is : ordinal ≡ entry.ordinal
  pub key_is : key ≡ key_of entry
  pub in_box_is : in_box ≡ list_all (holds_place holder) (boxing.points entry)

-- the records of these fields were checked as those of the block, and seen so
pub record AreRecordsChecked (boxing : Boxing) (beside : Beside) (holder : Rect) (block : Block) (fields : Fields) (old new : Option FileBreak) (seen : BlockSeen) : Type 0 where
  pub asked : new ≡ earlier old (first_failing (flat_map (boxing.facts beside block) (with_before None (entries_from 0 (messages_in fields)))))
  pub count : seen.count ≡ length (entries_from 0 (messages_in fields))
  pub in_box : seen.in_box ≡ list_all (holds_place holder) (flat_map boxing.points (entries_from 0 (messages_in fields)))

-- the block of these fields was checked, and seen so
pub record IsBlockChecked (boxing : Boxing) (beside : Beside) (holder : Rect) (at : ℕ) (fields : Fields) (old new : Option FileBreak) (seen : BlockSeen) : Type 0 where
  pub block : Block
  pub is : block_with at fields ≡ Some block
  pub asked : new ≡ earlier old (first_failing (block_facts boxing beside block))
  pub in_box : seen.in_box ≡ list_all (holds_place holder) (points_in boxing beside block)

-- the record of these fields, after one of this ordinal
abbrev pub entry_of : ℕ → ℕ → Fields → Entry
entry_of before at fields = record { at = at; ordinal = before + step_of fields; fields = fields }

-- the window holds a record of good form that may stand in a block of these texts after one of this ordinal and key
pub record IsGoodRecord {K : Type 0} (class : Boxed) (boxing : Boxing) (key_of : Entry → K) (beside : Beside) (holder : Rect) (before : Option K) (texts : BlockTexts) (from at : ℕ) (w : Window) (ordinal : ℕ) (key : K) : Type 0 where
  pub fields : Fields
  pub read : message_at (Record class) w ≡ Ok fields
  pub ordinal_is : ordinal ≡ from + step_of fields
  pub key_is : key ≡ key_of (entry_of from at fields)
  pub facts : (block : Block) (prev : Option Entry) → AreTexts texts block.texts → option_map key_of prev ≡ before → AllHold (boxing.facts beside block (prev, entry_of from at fields))
  pub points : list_all (holds_place holder) (boxing.points (entry_of from at fields)) ≡ true
