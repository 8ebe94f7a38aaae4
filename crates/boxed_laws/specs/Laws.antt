-- Laws of packed sections of any class.
use Rattle.std.specs.Prelude.{◌≡◌, ◌<◌, ◌^◌, ℕ, List, Contains, flat_map, length}
use Rattle.std.specs.List.{AllByRecursion}
use Rattle.std.specs.List.Sorted.{IsPermutation}
use Rattle.live_model.specs.declared.rules.Rule.{Rule}
use Rattle.obf_wire.specs.Fields.{Window, IsWindow, left_of}
use Rattle.file_grammar.specs.Readings.{IsInMemory}
use Rattle.file_grammar.specs.BoxRules.{Beside, section_facts}
use Rattle.file_grammar.specs.Facts.{AllHold}
use Rattle.file_grammar.specs.Sections.{Section}
use Rattle.file_grammar.specs.Listed.{IsSectionOf, ReadsAs as ReadsAsOf, records_in}
use Rattle.boxed_write.specs.Packed.{Packing, blocks_of, packed}
use Rattle.boxed_laws.specs.Classes.{BoxedClass, with_marks, without_marks}

-- the records as they stand in their blocks
abbrev pub in_blocks : {A : Type 0} → Packing A → List A → List A
in_blocks packing records = flat_map (λ block. block) (blocks_of packing records)

-- each record stands in one block, as often as it was given
abbrev pub KeptLaw : {A : Type 0} → Packing A → Type 0
KeptLaw {A} packing = (records : List A) → IsPermutation records (in_blocks packing records)

-- the order in which records are given does not matter
abbrev pub AnyOrderLaw : {A : Type 0} → Packing A → (A → Type 0) → Type 0
AnyOrderLaw {A} packing fits = (a b : List A) → AllByRecursion fits a → IsPermutation a b → packed packing a ≡ packed packing b

module _ {A : Type 0} (c : BoxedClass A) where
  -- the bytes of the window are a section of these records
  abbrev pub IsSection : Beside → Window → List A → Type 0
  IsSection beside w records = IsSectionOf c.class c.boxing c.reads beside w records

  -- the bytes of the window are read to these records
  abbrev pub ReadsAs : Beside → Window → List A → Type 0
  ReadsAs beside w records = ReadsAsOf c.class c.boxing c.reads beside w records

  -- a section in which every rule holds without marks is good beside marks that contain the object of each of its records
  abbrev pub MarkedLaw : Type 0
  MarkedLaw =
      (rules : List Rule) (marks : List ℕ) (s : Section) → AllByRecursion (λ r. Contains marks (c.packing.ordinal r)) (records_in c.reads s)
      → AllHold (section_facts c.boxing (without_marks rules) s) → AllHold (section_facts c.boxing (with_marks rules marks) s)

  module _ (suits : List Rule → A → Type 0) where
    -- what is packed of records that suit the rules is a section of these records
    abbrev pub PackedLaw : Type 0
    PackedLaw =
        (rules : List Rule) (records : List A) (w : Window) → length rules < 2 ^ 64 → AllByRecursion (suits rules) records → IsWindow w → length w.bytes < 2 ^ 64
        → left_of w ≡ packed c.packing records → IsSection (without_marks rules) w (in_blocks c.packing records)

    -- and it is one beside marks that contain the object of each record
    abbrev pub PackedMarkedLaw : Type 0
    PackedMarkedLaw =
        (rules : List Rule) (marks : List ℕ) (records : List A) (w : Window) → length rules < 2 ^ 64 → AllByRecursion (suits rules) records → AllByRecursion (λ r. Contains marks (c.packing.ordinal r)) records
        → IsWindow w → length w.bytes < 2 ^ 64 → left_of w ≡ packed c.packing records → IsSection (with_marks rules marks) w (in_blocks c.packing records)

    -- what is packed of records that suit the rules is read, in memory, to these records
    abbrev pub PackedReadLaw : Type 0
    PackedReadLaw =
        (rules : List Rule) (records : List A) (w : Window) → length rules < 2 ^ 64 → AllByRecursion (suits rules) records → IsInMemory w
        → left_of w ≡ packed c.packing records → ReadsAs (without_marks rules) w (in_blocks c.packing records)

    -- the records of a section, however it is packed, suit the rules
    abbrev pub FittingLaw : Type 0
    FittingLaw = (beside : Beside) (w : Window) (records : List A) → IsSection beside w records → AllByRecursion (suits beside.rules) records
