-- The parts of a file as they were read, and what has to hold of them.
use Rattle.std.specs.Prelude.{◌≡◌, ◌==◌, ◌&&◌, ◌||◌, not, if◌then◌else◌, ℕ, List, [], ◌∷◌, is_some, unwrap_or, Option, Some, None}
use Rattle.obf_wire.specs.declared.file.FileKind.TheVariants.{BadHead, BadRules, BadConfirm}
use Rattle.file_grammar.specs.BoxRules.{Beside}
use Rattle.file_grammar.specs.Facts.{Fact, fact}
use Rattle.file_grammar.specs.Files.{FileParts, file_in, is_head, marks_facts, rules_in}
use Rattle.file_grammar.specs.Messages.{Fields}
use Rattle.obf_reader.specs.declared.parts.PartsRead.{PartsRead}
use Rattle.obf_reader.specs.MarkLists.{IsMarksRead}
use Rattle.obf_reader.specs.Spread.{AreSectionsOf, seen_numbers}

-- all that has to hold outside the sections of records
abbrev pub own_facts : FileParts → List Fact
own_facts file =
    fact file.head.at BadHead (is_head file.head.value) ∷ fact file.rules.at BadRules (is_some (rules_in file.rules.value))
    ∷ fact file.again.at BadConfirm (file.again.value == file.version) ∷ marks_facts file.head.value.level file.marks

-- these parts were read
pub record AreParts (read : PartsRead) (parts : FileParts) : Type 0 where
  pub version : read.version.value ≡ parts.version
  pub head_at : read.head_at ≡ parts.head.at
  pub head : seen_numbers read.head ≡ parts.head.value
  pub rules_at : read.rules_at ≡ parts.rules.at
  pub canonical : read.rules.canonical ≡ is_some (rules_in parts.rules.value)
  pub rules : read.rules.rules ≡ unwrap_or (rules_in parts.rules.value) []
  pub marks_at : read.marks_at ≡ parts.marks.at
  pub marks : IsMarksRead read.marks parts.marks.value
  pub again_at : read.again.at ≡ parts.again.at
  pub again : read.again.value ≡ parts.again.value

-- the parts of these fields were read, and the sections of records stand there
pub record IsReadOf (bytes : List ℕ) (read : PartsRead) (fields : Fields) : Type 0 where
  pub parts : FileParts
  pub are : file_in fields ≡ Some parts
  pub read_are : AreParts read parts
  pub sections : AreSectionsOf bytes read.sections parts

-- the ordinals that records may have, where not every one may stand: none in a base, nor beside marks that break a rule
abbrev pub marks_of : PartsRead → Option (List ℕ)
marks_of read = if (read.head.level == 0) || not (read.marks.rise && read.marks.ordinals) then None else Some read.marks.marks.items

-- what is there beside the sections of records
abbrev pub beside_of : PartsRead → Beside
beside_of read = record { rules = read.rules.rules; marks = marks_of read }
