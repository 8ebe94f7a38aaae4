-- The tests of an object line in their order, and its break: the first that fails.
use Rattle.std.specs.Prelude.{ℕ, List, [], ◌∷◌, ◌++◌, drop, Bool, not, Option, Some, None, if◌then◌else◌, is_some, find}
use Rattle.std.specs.Option.{option_map}
use Rattle.std.specs.Str.{is_utf8}
use Rattle.text_pieces.specs.Lines.{fields_from}
use Rattle.text_pieces.specs.Escapes.{text_of, unescaped}
use Rattle.live_model.specs.declared.ids.Kind.{Kind}
use Rattle.live_model.specs.declared.opl.OplKind.{OplKind}
use Rattle.live_model.specs.declared.opl.OplKind.TheVariants.{NotUtf8, BadId, BadField, Twice, BadEscape, BadNumber, LocatedRef, BadList, OverLimit}
use Rattle.live_model.specs.declared.opl.Letter.{Letter}
use Rattle.live_model.specs.declared.opl.Letter.TheVariants.{Version, State, Change, Time, UserId, UserName, Tags, Lon, Lat, Refs, Members}
use Rattle.live_model.specs.Ids.{Id}
use Rattle.live_model.specs.FieldValues.{items_of, is_few, version_of, gone_of, is_count, is_time, longitude_of, latitude_of, pairs_of, refs_of, members_of, breaks_located}
use Rattle.live_model.specs.ObjectLines.{letter_of, first_of, comes_in, head_of}

-- what is tested at a place of the line, and how the line breaks where that fails
pub record Test : Type 0 where
  pub at : ℕ
  pub kind : OplKind
  pub passes : Bool

-- the tests of a value, in order
abbrev pub value_tests : Letter → List ℕ → List (OplKind × Bool)
value_tests Version value = (BadNumber, is_some (version_of value)) ∷ []
value_tests State value = (BadField, is_some (gone_of value)) ∷ []
value_tests Change value = (BadNumber, is_count value) ∷ []
value_tests Time value = (BadNumber, is_time value) ∷ []
value_tests UserId value = (BadNumber, is_count value) ∷ []
value_tests UserName value = (BadEscape, is_some (unescaped value)) ∷ (BadList, is_some (text_of value)) ∷ []
value_tests Tags value = (BadEscape, is_some (unescaped value)) ∷ (BadList, is_some (pairs_of value)) ∷ (OverLimit, is_few value) ∷ []
value_tests Lon value = (BadNumber, is_some (longitude_of value)) ∷ []
value_tests Lat value = (BadNumber, is_some (latitude_of value)) ∷ []
value_tests Refs value = (LocatedRef, not (breaks_located (items_of value))) ∷ (BadList, is_some (refs_of value)) ∷ (OverLimit, is_few value) ∷ []
value_tests Members value = (BadEscape, is_some (unescaped value)) ∷ (BadList, is_some (members_of value)) ∷ (OverLimit, is_few value) ∷ []

-- a field with no letter of its kind has no further tests
abbrev pub letter_tests : Option Letter → List ℕ → List (OplKind × Bool)
letter_tests None value = []
letter_tests (Some letter) value = value_tests letter value

-- the letter is one of this kind, and none of those before; then the value
abbrev pub field_tests : Kind → List ℕ → List ℕ → List (OplKind × Bool)
field_tests kind before field =
    (BadField, is_some (letter_of kind (first_of field))) ∷ (Twice, not (comes_in before (first_of field)))
    ∷ letter_tests (letter_of kind (first_of field)) (drop 1 field)

-- tests at one place of the line
abbrev pub tests_at : ℕ → List (OplKind × Bool) → List Test
tests_at at [] = []
tests_at at (t ∷ ts) = record { at = at; kind = t.0; passes = t.1 } ∷ tests_at at ts

-- the fields from the left, each at its first byte
abbrev pub fields_tests : Kind → List ℕ → List (ℕ × List ℕ) → List Test
fields_tests kind before [] = []
fields_tests kind before (f ∷ fs) = tests_at f.0 (field_tests kind before f.1) ++ fields_tests kind (before ++ first_of f.1 ∷ []) fs

-- the tests of the fields behind the id, if there is an id
abbrev pub tests_with : Option Id → List (ℕ × List ℕ) → List Test
tests_with None fs = []
tests_with (Some o) fs = fields_tests o.kind [] fs

-- the line is UTF-8, and its first field an id, each at the line's first byte; then the other fields
unfoldable pub tests_of : List ℕ → List Test
tests_of row =
    tests_at 0 ((NotUtf8, is_utf8 row) ∷ (BadId, is_some (head_of (fields_from 0 row))) ∷ [])
    ++ tests_with (head_of (fields_from 0 row)) (drop 1 (fields_from 0 row))

-- how a line breaks that fails this test
abbrev pub place_and_kind : Test → ℕ × OplKind
place_and_kind t = (t.at, t.kind)

-- the place and the kind of the first test that fails
abbrev pub failure_in : List Test → Option (ℕ × OplKind)
failure_in ts = option_map place_and_kind (find (λ t. not t.passes) ts)

-- where the line breaks, counted from its first byte, and how; none where every test passes
unfoldable pub break_of : List ℕ → Option (ℕ × OplKind)
break_of row = failure_in (tests_of row)

-- how one field breaks
abbrev pub failure_kind : List (OplKind × Bool) → Option OplKind
failure_kind [] = None
failure_kind (t ∷ ts) = if t.1 then failure_kind ts else Some t.0
