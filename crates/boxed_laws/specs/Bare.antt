-- Fields without their offsets: what they spell, and of what form they are, does not depend on where they stand.
use Rattle.std.specs.Prelude.{◌≡◌, ℕ, List, [], ◌++◌, length, flat_map, Option, Some, None, IsTrue}
use Rattle.obf_wire.specs.Varint.{varint}
use Rattle.obf_wire.specs.Fields.{field_spelling}
use Rattle.file_grammar.specs.declared.parts.Part.{Part}
use Rattle.file_grammar.specs.declared.parts.Content.TheVariants.{Bytes}
use Rattle.file_grammar.specs.Tables.{may_end, content_of}
use Rattle.file_grammar.specs.Messages.{Fields, ends, has_number, has_bytes, has_numbers, has_message, inside, beyond, IsNumberFor, AreNumbersFor, IsMessageFor, MayCome}

-- fields in order
pub data Bare : Type 0 where
  no_more : Bare
  a_number : (key value : ℕ) → Bare → Bare
  a_text : (key : ℕ) → List ℕ → Bare → Bare
  some_numbers : (key : ℕ) → List ℕ → Bare → Bare
  a_message : (key : ℕ) → Bare → Bare → Bare

-- their bytes
abbrev pub bytes_of : Bare → List ℕ
bytes_of no_more = []
bytes_of (a_number key value rest) = field_spelling key value [] ++ bytes_of rest
bytes_of (a_text key payload rest) = field_spelling key (length payload) payload ++ bytes_of rest
bytes_of (some_numbers key values rest) = field_spelling key (length (flat_map varint values)) (flat_map varint values) ++ bytes_of rest
bytes_of (a_message key inner rest) = field_spelling key (length (bytes_of inner)) (bytes_of inner) ++ bytes_of rest

-- the fields from an offset on
abbrev pub stood : ℕ → Bare → Fields
stood at no_more = ends
stood at (a_number key value rest) = has_number at key value (stood (inside at key value) rest)
stood at (a_text key payload rest) = has_bytes at key payload (stood (beyond at key (length payload)) rest)
stood at (some_numbers key values rest) = has_numbers at key values (stood (beyond at key (length (flat_map varint values))) rest)
stood at (a_message key inner rest) =
    has_message at key (stood (inside at key (length (bytes_of inner))) inner) (stood (beyond at key (length (bytes_of inner))) rest)

-- they are of the form of a part
abbrev pub AreFormed : Part → Option ℕ → Bare → Type 0
AreFormed part last no_more = IsTrue (may_end part last)
AreFormed part last (a_number key value rest) = MayCome part last key × IsNumberFor (content_of part key) value × AreFormed part (Some key) rest
AreFormed part last (a_text key payload rest) = MayCome part last key × (content_of part key ≡ Some Bytes) × AreFormed part (Some key) rest
AreFormed part last (some_numbers key values rest) = MayCome part last key × AreNumbersFor (content_of part key) values × AreFormed part (Some key) rest
AreFormed part last (a_message key inner rest) =
    MayCome part last key × IsMessageFor (λ sub. AreFormed sub None inner) (content_of part key) × AreFormed part (Some key) rest
