-- What an object line spells: an id, and fields that are found by their letters.
use Rattle.std.specs.Prelude.{ℕ, List, [], ◌∷◌, ◌++◌, drop, Bool, true, false, ◌&&◌, not, ◌==◌, Option, Some, None, if◌then◌else◌, is_some, find, unwrap_or, ℤ}
use Rattle.std.specs.Option.{option_map, option_and_then}
use Rattle.std.specs.List.{list_any}
use Rattle.std.specs.Str.{is_utf8}
use Rattle.text_pieces.specs.Lines.{fields_from}
use Rattle.text_pieces.specs.Escapes.{text_of, unescaped}
use Rattle.live_model.specs.declared.ids.Kind.{Kind}
use Rattle.live_model.specs.declared.ids.Kind.TheVariants.{Node, Way, Relation}
use Rattle.live_model.specs.declared.points.Point.{Point}
use Rattle.live_model.specs.declared.objects.Line.{Line}
use Rattle.live_model.specs.declared.objects.Line.TheVariants.{Live, Gone}
use Rattle.live_model.specs.declared.opl.Letter.{Letter}
use Rattle.live_model.specs.declared.opl.Letter.TheVariants.{Version, State, Change, Time, UserId, UserName, Tags, Lon, Lat, Refs, Members}
use Rattle.live_model.specs.Ids.{Id}
use Rattle.live_model.specs.Points.{point_at}
use Rattle.live_model.specs.FieldValues.{is_few, object_of, version_of, gone_of, is_count, is_time, longitude_of, latitude_of, tags_from, pairs_of, refs_of, members_of}

-- Fields.

-- the letter as it is written: v d c t i u T x y N M
abbrev pub letter_byte : Letter → ℕ
letter_byte Version = 118
letter_byte State = 100
letter_byte Change = 99
letter_byte Time = 116
letter_byte UserId = 105
letter_byte UserName = 117
letter_byte Tags = 84
letter_byte Lon = 120
letter_byte Lat = 121
letter_byte Refs = 78
letter_byte Members = 77

-- the letters that stand on objects of every kind
abbrev pub common_letter_of : ℕ → Option Letter
common_letter_of c =
    if c == letter_byte Version then Some Version else if c == letter_byte State then Some State else if c == letter_byte Change then Some Change
    else if c == letter_byte Time then Some Time else if c == letter_byte UserId then Some UserId else if c == letter_byte UserName then Some UserName
    else if c == letter_byte Tags then Some Tags else None

-- the letters of a kind
unfoldable pub letter_of : Kind → ℕ → Option Letter
letter_of Node c = if c == letter_byte Lon then Some Lon else if c == letter_byte Lat then Some Lat else common_letter_of c
letter_of Way c = if c == letter_byte Refs then Some Refs else common_letter_of c
letter_of Relation c = if c == letter_byte Members then Some Members else common_letter_of c

-- whether a value is one of its letter
abbrev pub is_value : Letter → List ℕ → Bool
is_value Version value = is_some (version_of value)
is_value State value = is_some (gone_of value)
is_value Change value = is_count value
is_value Time value = is_time value
is_value UserId value = is_count value
is_value UserName value = is_some (text_of value)
is_value Tags value = is_some (unescaped value) && (is_some (pairs_of value) && is_few value)
is_value Lon value = is_some (longitude_of value)
is_value Lat value = is_some (latitude_of value)
is_value Refs value = is_some (refs_of value) && is_few value
is_value Members value = is_some (unescaped value) && (is_some (members_of value) && is_few value)

-- the first byte, or 0 where there is none
abbrev pub first_of : List ℕ → ℕ
first_of [] = 0
first_of (c ∷ cs) = c

-- the byte is one of these
abbrev pub comes_in : List ℕ → ℕ → Bool
comes_in firsts c = list_any (λ d. d == c) firsts

-- a letter of this kind, and a good value behind it
abbrev pub is_field : Kind → List ℕ → Bool
is_field kind field = unwrap_or (option_map (λ letter. is_value letter (drop 1 field)) (letter_of kind (first_of field))) false

-- each field is one of this kind, and its letter is none of those before it
abbrev pub are_fields : Kind → List ℕ → List (ℕ × List ℕ) → Bool
are_fields kind before [] = true
are_fields kind before (f ∷ fs) =
    (is_field kind f.1 && not (comes_in before (first_of f.1))) && are_fields kind (before ++ first_of f.1 ∷ []) fs

-- The line. Its fields are good ones here, so that a field that is there has its value.

-- what the field of this letter spells, if there is one
abbrev pub value_in : {A : Type 0} → ℕ → (List ℕ → Option A) → List (ℕ × List ℕ) → Option A
value_in c read fs = option_and_then (λ f. read (drop 1 f.1)) (find (λ f. first_of f.1 == c) fs)

-- the same, or what a missing field stands for
abbrev pub found : {A : Type 0} → Letter → (List ℕ → Option A) → A → List (ℕ × List ℕ) → A
found letter read missing fs = unwrap_or (value_in (letter_byte letter) read fs) missing

-- a node is located where both coordinates have values
abbrev pub place_from : Option ℤ → Option ℤ → Option Point
place_from (Some lon) (Some lat) = Some (point_at lon lat)
place_from lon lat = None

-- what a line says of an object, by its fields
abbrev pub line_from : Id → List (ℕ × List ℕ) → Line
line_from o fs =
    if found State gone_of false fs then Gone o (found Version version_of 0 fs)
    else Live (record {
      id = o;
      version = found Version version_of 0 fs;
      tags = tags_from (found Tags pairs_of [] fs);
      place = place_from (found Lon longitude_of None fs) (found Lat latitude_of None fs);
      refs = found Refs refs_of [] fs;
      members = found Members members_of [] fs;
    })

-- the first field begins at the first byte, and is an id with its letter
abbrev pub head_of : List (ℕ × List ℕ) → Option Id
head_of [] = None
head_of (f ∷ fs) = if f.0 == 0 then object_of f.1 else None

-- the same, where there is an id and the fields are good
abbrev pub line_with : Option Id → List (ℕ × List ℕ) → Option Line
line_with None fs = None
line_with (Some o) fs = if are_fields o.kind [] fs then Some (line_from o fs) else None

-- the line that a whole object line spells
unfoldable pub line_of : List ℕ → Option Line
line_of row = if is_utf8 row then line_with (head_of (fields_from 0 row)) (drop 1 (fields_from 0 row)) else None
