-- The records of a section, in the order of the file, and what it is for bytes to hold them.
use Rattle.std.specs.Prelude.{◌≡◌, ◌≤◌, List, length, map, flat_map, None, Ok}
use Rattle.obf_wire.specs.Fields.{Window, IsWindow}
use Rattle.file_grammar.specs.declared.parts.Boxed.{Boxed}
use Rattle.file_grammar.specs.declared.parts.Part.TheVariants.{Boxes}
use Rattle.file_grammar.specs.BoxRules.{Beside, Boxing, section_facts}
use Rattle.file_grammar.specs.Facts.{AllHold, first_failing}
use Rattle.file_grammar.specs.Messages.{Fields, IsMessage}
use Rattle.file_grammar.specs.Readings.{message_at}
use Rattle.file_grammar.specs.Sections.{Block, Entry, Section, section_in}

-- How a record of the class reads: the record that an entry of a block stands for.
abbrev pub Reading : Type 0 → Type 0
Reading A = Block → Entry → A

module _ {A : Type 0} (reads : Reading A) where
  -- the records of a block
  abbrev pub block_records : Block → List A
  block_records block = map (reads block) block.entries

  -- the records of a section, in the order of its blocks
  abbrev pub records_in : Section → List A
  records_in section = flat_map block_records section.blocks

module _ (class : Boxed) (boxing : Boxing) where
  -- the bytes of the window have the form of a section in which no rule fails, beside a table of rules, of which there are at
  -- most 100,000
  pub record HoldsSection (w : Window) : Type 0 where
    pub window : IsWindow w
    pub beside : Beside
    pub few : length beside.rules ≤ 100000
    pub fields : Fields
    pub read : message_at (Boxes class) w ≡ Ok fields
    pub sound : first_failing (section_facts boxing beside (section_in fields)) ≡ None

module _ {A : Type 0} (class : Boxed) (boxing : Boxing) (reads : Reading A) where
  -- the bytes of the window are a section of these records, in the order of its blocks, and every rule holds of it
  pub record IsSectionOf (beside : Beside) (w : Window) (records : List A) : Type 0 where
    pub fields : Fields
    pub form : IsMessage (Boxes class) w fields
    pub sound : AllHold (section_facts boxing beside (section_in fields))
    pub records_are : records ≡ records_in reads (section_in fields)

  -- The bytes of the window are read, field by field, to a section in which no rule fails and which holds these records in the
  -- order of its blocks.
  pub record ReadsAs (beside : Beside) (w : Window) (records : List A) : Type 0 where
    pub fields : Fields
    pub read : message_at (Boxes class) w ≡ Ok fields
    pub sound : first_failing (section_facts boxing beside (section_in fields)) ≡ None
    pub records_are : records_in reads (section_in fields) ≡ records
