-- Records as they are read of the bytes of a section.
use Rattle.std.specs.Prelude.{◌≡◌, ℕ, List, [], map, true, Result, Ok, Err}
use Rattle.std.specs.Option.{option_map_or}
use Rattle.live_model.specs.Ids.{Id}
use Rattle.obf_wire.specs.declared.file.FileBreak.{FileBreak}
use Rattle.obf_wire.specs.Fields.{Window, part_of}
use Rattle.file_grammar.specs.declared.parts.Boxed.{Boxed}
use Rattle.file_grammar.specs.declared.parts.Part.{Part}
use Rattle.file_grammar.specs.declared.parts.Part.TheVariants.{Block as BlockPart, Record, Texts}
use Rattle.file_grammar.specs.BoxRules.{Boxing, is_ordinal}
use Rattle.file_grammar.specs.Facts.{AllHold}
use Rattle.file_grammar.specs.Listed.{Reading, block_records}
use Rattle.file_grammar.specs.Messages.{Fields, ends}
use Rattle.file_grammar.specs.Readings.{message_at}
use Rattle.file_grammar.specs.Sections.{Block, Entry, Placed, block_with, entries_from, messages_in, object_of, texts_in}
use Rattle.file_grammar.specs.Walks.{Standing, left_in}
use Rattle.boxed_exact.specs.declared.fields.Payload.{Payload}

-- ---- how a class reads

-- of a block, its texts alone
abbrev pub only_texts : List (Placed (List ℕ)) → Block
only_texts texts = record { at = 0; texts = texts; entries = [] }

-- of an entry, its ordinal and its fields alone
abbrev pub only_fields : ℕ → Fields → Entry
only_fields ordinal fields = record { at = 0; ordinal = ordinal; fields = fields }

-- A way to read the records of a class, in a group of this name: they depend on nothing but the texts of the block, the
-- ordinal and the fields, and have the id of the ordinal; and the rules of the class ask for an ordinal.
pub record IsReading {A : Type 0} (boxing : Boxing) (reads : List ℕ → Reading A) (id_of : A → Id) : Type 0 where
  pub plain : (group : List ℕ) (block : Block) (entry : Entry) → reads group block entry ≡ reads group (only_texts block.texts) (only_fields entry.ordinal entry.fields)
  pub id_is : (group : List ℕ) (block : Block) (entry : Entry) → id_of (reads group block entry) ≡ object_of entry.ordinal
  pub object : (beside : _) (block : Block) (prev : _) (entry : Entry) → AllHold (boxing.facts beside block (prev, entry)) → is_ordinal entry.ordinal ≡ true

-- ---- what stands in the bytes

-- the fields that were read; none where the form is broken
abbrev pub fields_read : Result Fields FileBreak → Fields
fields_read (Ok fields) = fields
fields_read (Err b) = ends

-- the fields of a message
abbrev pub fields_at : Part → Window → Fields
fields_at part w = fields_read (message_at part w)

-- the texts in a window
abbrev pub texts_at : Window → List (Placed (List ℕ))
texts_at w = texts_in (fields_at Texts w)

module _ {A : Type 0} (class : Boxed) (reads : Reading A) where
  -- the record of this ordinal in a window, in a block with the texts in another
  abbrev pub record_at : Window → Window → ℕ → A
  record_at texts w ordinal = reads (only_texts (texts_at texts)) (only_fields ordinal (fields_at (Record class) w))

  -- the records that are left of a block with the texts in a window, after one of this ordinal
  abbrev pub records_left : Window → ℕ → Standing → List A
  records_left texts before s = map (reads (only_texts (texts_at texts))) (entries_from before (messages_in (fields_read (left_in s))))

  -- the records of the block in a window
  abbrev pub records_at : Window → List A
  records_at w = option_map_or (block_records reads) (block_with 0 (fields_at (BlockPart class) w)) []

  -- the records of the blocks that stand there, block by block
  abbrev pub records_of : List ℕ → List Payload → List (List A)
  records_of bytes spans = map (λ span. records_at (part_of bytes span.from span.to)) spans
