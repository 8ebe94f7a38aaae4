-- What a message holds, and the bytes that spell it.
use Rattle.std.specs.Prelude.{◌≡◌, ℕ, ◌+◌, ◌%◌, ◌^◌, ◌<◌, List, [], ◌++◌, length, flat_map, IsTrue, Option, Some, None}
use Rattle.std.specs.List.{AllByRecursion}
use Rattle.obf_wire.specs.Varint.{varint}
use Rattle.obf_wire.specs.Fields.{Window, left_of, is_among, content, field_spelling}
use Rattle.file_grammar.specs.Tables.{group_size, version_number, next_keys, may_end, content_of}
use Rattle.file_grammar.specs.declared.parts.Part.{Part}
use Rattle.file_grammar.specs.declared.parts.Content.{Content}
use Rattle.file_grammar.specs.declared.parts.Content.TheVariants.{Number, Version, Bytes, Numbers, Message}

-- the fields of a message in order, each with the place of its key; one type, so that all about it is a plain recursion
pub data Fields : Type 0 where
  ends : Fields
  has_number : (at key value : ℕ) → Fields → Fields
  has_bytes : (at key : ℕ) → List ℕ → Fields → Fields
  has_numbers : (at key : ℕ) → List ℕ → Fields → Fields
  has_message : (at key : ℕ) → Fields → Fields → Fields

-- the bytes of the fields
unfoldable pub spelling : Fields → List ℕ
spelling ends = []
spelling (has_number at key value rest) = field_spelling key value [] ++ spelling rest
spelling (has_bytes at key payload rest) = field_spelling key (length payload) payload ++ spelling rest
spelling (has_numbers at key values rest) = field_spelling key (length (flat_map varint values)) (flat_map varint values) ++ spelling rest
spelling (has_message at key inner rest) = field_spelling key (length (spelling inner)) (spelling inner) ++ spelling rest

-- the place of a payload of a field at a place
abbrev pub inside : ℕ → ℕ → ℕ → ℕ
inside at key value = at + length (varint key ++ content key value)

-- the place behind a payload of that length
abbrev pub beyond : ℕ → ℕ → ℕ → ℕ
beyond at key value = inside at key value + value

-- what a number may be, by its row
abbrev pub IsNumberFor : Option Content → ℕ → Type 0
IsNumberFor (Some Number) n = n < 2 ^ 64
IsNumberFor (Some (Version version)) n = n ≡ version_number version
IsNumberFor content n = ⊥

-- what a list of numbers may be, by its row
abbrev pub AreNumbersFor : Option Content → List ℕ → Type 0
AreNumbersFor (Some (Numbers group)) values = (length values % group_size group ≡ 0) × AllByRecursion (λ n. n < 2 ^ 64) values
AreNumbersFor content values = ⊥

-- a message is one of the part that its row says
abbrev pub IsMessageFor : (Part → Type 0) → Option Content → Type 0
IsMessageFor is (Some (Message part)) = is part
IsMessageFor is content = ⊥

-- a field of this key may come behind the last one
abbrev pub MayCome : Part → Option ℕ → ℕ → Type 0
MayCome part last key = IsTrue (is_among (next_keys part last) key)

-- The fields, from a place on, are in the order of a table of the message and hold what its rows say.
unfoldable pub HaveForm : Part → Option ℕ → ℕ → Fields → Type 0
HaveForm part last place ends = IsTrue (may_end part last)
HaveForm part last place (has_number at key value rest) =
    (at ≡ place) × MayCome part last key × IsNumberFor (content_of part key) value × HaveForm part (Some key) (inside at key value) rest
HaveForm part last place (has_bytes at key payload rest) =
    (at ≡ place) × MayCome part last key × (content_of part key ≡ Some Bytes) × HaveForm part (Some key) (beyond at key (length payload)) rest
HaveForm part last place (has_numbers at key values rest) =
    (at ≡ place) × MayCome part last key × AreNumbersFor (content_of part key) values
    × HaveForm part (Some key) (beyond at key (length (flat_map varint values))) rest
HaveForm part last place (has_message at key inner rest) =
    (at ≡ place) × MayCome part last key
    × IsMessageFor (λ sub. HaveForm sub None (inside at key (length (spelling inner))) inner) (content_of part key)
    × HaveForm part (Some key) (beyond at key (length (spelling inner))) rest

-- these bytes from a place to an end are such a message
pub record IsMessage (part : Part) (w : Window) (fields : Fields) : Type 0 where
  pub form : HaveForm part None w.place fields
  pub spelled : left_of w ≡ spelling fields
