-- What a row stands for.
use Rattle.std.specs.Prelude.{◌≡◌, ℕ, ◌<◌, List, [], length, None, Some, if◌then◌else◌}
use Rattle.live_model.specs.declared.ids.Kind.{Kind}
use Rattle.live_model.specs.declared.opl.Letter.{Letter}
use Rattle.live_model.specs.LineTests.{fields_tests, failure_in, value_tests, failure_kind}
use Rattle.opl_reader.specs.FoundFields.{with_value, with_field, field_failure, found_in}
use Rattle.opl_rows.specs.declared.rows.Row.{Row}
use Rattle.opl_rows.specs.Fronts.{front, back}

-- the type of a value
abbrev type_of : {A : Type 0} → A → Type 0
type_of {A} a = A

-- the values of the fields of a line, each under its letter, as `FoundFields` has them
abbrev pub Found : Type 0
Found = type_of (found_in [])

-- the values that a row holds
abbrev pub found_of : Row → Found
found_of row = record {
  version = row.version;
  gone = row.gone;
  change = row.change;
  time = row.time;
  user_id = row.user_id;
  user_name = row.user_name;
  tags = if row.has_tags then Some row.tags.tags else None;
  lon = row.lon;
  lat = row.lat;
  refs = if row.has_refs then Some row.refs.items else None;
  members = if row.has_members then Some row.members.items else None;
}

-- the value at the front of bytes is a good one of its letter, and is found
pub record ValueRead (letter : Letter) (bytes rest : List ℕ) (old new : Found) : Type 0 where
  pub rest_is : rest ≡ back bytes
  pub good : failure_kind (value_tests letter (front bytes)) ≡ None
  pub found : new ≡ with_value letter (front bytes) old

-- the field at the front of bytes is a good one of its kind, and is found
pub record FieldRead (kind : Kind) (bytes rest : List ℕ) (old new : Found) : Type 0 where
  pub some : 0 < length (front bytes)
  pub rest_is : rest ≡ back bytes
  pub good : field_failure kind (front bytes) old ≡ None
  pub found : new ≡ with_field kind (front bytes) old

-- fields that are good and found
pub record AreRead (kind : Kind) (fs : List (ℕ × List ℕ)) (found : Found) : Type 0 where
  pub good : failure_in (fields_tests kind [] fs) ≡ None
  pub found_is : found ≡ found_in fs
