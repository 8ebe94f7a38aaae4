-- The values of the fields of a line, each under its letter.
use Rattle.std.specs.Prelude.{ℕ, List, [], drop, Bool, true, false, ◌==◌, Option, Some, None, if◌then◌else◌, is_some, find, unwrap_or, ℤ}
use Rattle.std.specs.Option.{option_map}
use Rattle.live_model.specs.declared.ids.Kind.{Kind}
use Rattle.live_model.specs.declared.points.Point.{Point}
use Rattle.live_model.specs.declared.objects.Line.{Line}
use Rattle.live_model.specs.declared.objects.Line.TheVariants.{Live, Gone}
use Rattle.live_model.specs.declared.opl.Letter.{Letter}
use Rattle.live_model.specs.declared.opl.Letter.TheVariants.{Version, State, Change, Time, UserId, UserName, Tags, Lon, Lat, Refs, Members}
use Rattle.live_model.specs.declared.opl.OplKind.{OplKind}
use Rattle.live_model.specs.declared.opl.OplKind.TheVariants.{BadField, Twice}
use Rattle.live_model.specs.Ids.{Id}
use Rattle.live_model.specs.Points.{point_from}
use Rattle.live_model.specs.FieldValues.{version_of, gone_of, longitude_of, latitude_of, tags_from, pairs_of, refs_of, members_of}
use Rattle.live_model.specs.ObjectLines.{letter_byte, letter_of, first_of, value_in}
use Rattle.live_model.specs.LineTests.{value_tests, failure_kind}
use Rattle.opl_reader.specs.declared.rows.Found.{Found}

-- whether a field of this letter was found
abbrev pub has : Letter → Found → Bool
has Version found = is_some found.version
has State found = is_some found.gone
has Change found = found.change
has Time found = found.time
has UserId found = found.user_id
has UserName found = found.user_name
has Tags found = is_some found.tags
has Lon found = is_some found.lon
has Lat found = is_some found.lat
has Refs found = is_some found.refs
has Members found = is_some found.members

-- the same values, and this one under its letter
abbrev pub with_value : Letter → List ℕ → Found → Found
with_value Version value found = record found { version = version_of value }
with_value State value found = record found { gone = gone_of value }
with_value Change value found = record found { change = true }
with_value Time value found = record found { time = true }
with_value UserId value found = record found { user_id = true }
with_value UserName value found = record found { user_name = true }
with_value Tags value found = record found { tags = option_map tags_from (pairs_of value) }
with_value Lon value found = record found { lon = longitude_of value }
with_value Lat value found = record found { lat = latitude_of value }
with_value Refs value found = record found { refs = refs_of value }
with_value Members value found = record found { members = members_of value }

abbrev pub with_letter : Option Letter → List ℕ → Found → Found
with_letter None value found = found
with_letter (Some letter) value found = with_value letter value found

-- the value of one field more, where its letter is one of this kind
abbrev pub with_field : Kind → List ℕ → Found → Found
with_field kind field found = with_letter (letter_of kind (first_of field)) (drop 1 field) found

abbrev pub letter_failure : Option Letter → List ℕ → Found → Option OplKind
letter_failure None value found = Some BadField
letter_failure (Some letter) value found = if has letter found then Some Twice else failure_kind (value_tests letter value)

-- how one field more breaks, where these were found before
abbrev pub field_failure : Kind → List ℕ → Found → Option OplKind
field_failure kind field found = letter_failure (letter_of kind (first_of field)) (drop 1 field) found

abbrev pub has_field : Letter → List (ℕ × List ℕ) → Bool
has_field letter fs = is_some (find (λ f. first_of f.1 == letter_byte letter) fs)

-- what the fields spell, each value found by its letter
abbrev pub found_in : List (ℕ × List ℕ) → Found
found_in fs = record {
  version = value_in (letter_byte Version) version_of fs;
  gone = value_in (letter_byte State) gone_of fs;
  change = has_field Change fs;
  time = has_field Time fs;
  user_id = has_field UserId fs;
  user_name = has_field UserName fs;
  tags = option_map tags_from (value_in (letter_byte Tags) pairs_of fs);
  lon = value_in (letter_byte Lon) longitude_of fs;
  lat = value_in (letter_byte Lat) latitude_of fs;
  refs = value_in (letter_byte Refs) refs_of fs;
  members = value_in (letter_byte Members) members_of fs;
}

-- the point at a longitude and a latitude, where both are there
abbrev pub point_of : Option ℤ → Option ℤ → Option Point
point_of (Some lon) (Some lat) = point_from lon lat
point_of lon lat = None

-- the line of an object with these values
abbrev pub line_of_found : Id → Found → Line
line_of_found o found =
    if unwrap_or found.gone false then Gone o (unwrap_or found.version 0)
    else Live (record {
      id = o;
      version = unwrap_or found.version 0;
      tags = unwrap_or found.tags [];
      place = point_of (unwrap_or found.lon None) (unwrap_or found.lat None);
      refs = unwrap_or found.refs [];
      members = unwrap_or found.members [];
    })
