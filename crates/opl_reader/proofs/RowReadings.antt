-- One object line, by its id and its fields.
use Rattle.std.proofs.Common.{◌≡◌, ◌≢◌, ◌≤◌, ℕ, List, [], ◌∷◌, Bool, true, false, cond, ◌&&◌, nat_le, eqb, drop, length, Option, Some, None, ℤ, unsigned_abs, refl, sym, ap, ◌∙◌, subst, arith}
use Rattle.std.specs.Prelude.{is_some, unwrap_or}
use Rattle.std.specs.Option.{option_map}
use Rattle.std.specs.Str.{is_utf8}
use Rattle.std.proofs.lemmas.Bool.{le-leb, eq-eqb, ne_eqb}
use Rattle.text_pieces.specs.Lines.{fields_from}
use Rattle.live_model.specs.declared.points.Point.{Point}
use Rattle.live_model.specs.declared.objects.Tag.{Tag}
use Rattle.live_model.specs.declared.objects.Line.{Line}
use Rattle.live_model.specs.declared.objects.Line.TheVariants.{Live, Gone}
use Rattle.live_model.specs.declared.opl.Letter.TheVariants.{Version, State, Tags, Lon, Lat, Refs, Members}
use Rattle.live_model.specs.declared.opl.OplKind.{OplKind}
use Rattle.live_model.specs.declared.opl.OplKind.TheVariants.{NotUtf8, BadId}
use Rattle.live_model.specs.Ids.{Id}
use Rattle.live_model.specs.Points.{point_at}
use Rattle.live_model.specs.FieldValues.{object_of, version_of, gone_of, longitude_of, latitude_of, pairs_of, tags_from, refs_of, members_of}
use Rattle.live_model.specs.ObjectLines.{value_in, found, place_from, line_from, head_of, line_with, line_of, letter_byte}
use Rattle.live_model.specs.LineTests.{fields_tests, tests_with, tests_of, failure_in, break_of}
use Rattle.live_model.proofs.GoodLines.{found_within}
use Rattle.live_model.proofs.LineLaw.{good_fields}
use Rattle.opl_reader.specs.declared.OplError.{OplError}
use Rattle.opl_reader.specs.declared.OplError.TheVariants.{NoMemory, Broken}
use Rattle.opl_reader.specs.declared.rows.Found.{Found}
use Rattle.opl_reader.specs.Readings.{IsRowCause, IsFieldsCause}
use Rattle.opl_reader.specs.FoundFields.{found_in, point_of, line_of_found}

-- Breaks at the first byte.

-- the break, where it is at the first byte
pub row_cause : (row : List ℕ) (e : OplError) (kind : OplKind) → e ≡ Broken (record { at = 0; kind = kind }) → break_of row ≡ Some (0, kind) → IsRowCause row e
row_cause row e kind is breaks = subst (IsRowCause row) (sym is) (breaks, omega arith)

abbrev tests_by : Bool → Option Id → List (ℕ × List ℕ) → Option (ℕ × OplKind)
tests_by utf8 head fs = cond utf8 (cond (is_some head) (failure_in (tests_with head fs)) (Some (0, BadId))) (Some (0, NotUtf8))

-- the break of a line, by its two tests and its fields
broken_by : (row : List ℕ) → break_of row ≡ tests_by (is_utf8 row) (head_of (fields_from 0 row)) (drop 1 (fields_from 0 row))
unfolding break_of tests_of
broken_by row = one (is_utf8 row) (head_of (fields_from 0 row)) (drop 1 (fields_from 0 row))
  where
    one : (b : Bool) (o : Option Id) (fs : List (ℕ × List ℕ))
        → failure_in (record { at = 0; kind = NotUtf8; passes = b } ∷ record { at = 0; kind = BadId; passes = is_some o } ∷ tests_with o fs) ≡ tests_by b o fs
    one false o fs = refl
    one true None fs = refl
    one true (Some o) fs = refl

pub not_text : (row : List ℕ) → is_utf8 row ≡ false → break_of row ≡ Some (0, NotUtf8)
not_text row e = broken_by row ∙ ap (λ b. tests_by b (head_of (fields_from 0 row)) (drop 1 (fields_from 0 row))) e

headless : (row : List ℕ) → is_utf8 row ≡ true → head_of (fields_from 0 row) ≡ None → break_of row ≡ Some (0, BadId)
headless row utf8 none =
    broken_by row ∙ ap (λ b. tests_by b (head_of (fields_from 0 row)) (drop 1 (fields_from 0 row))) utf8 ∙ ap (λ o. tests_by true o (drop 1 (fields_from 0 row))) none

pub no_head : (row : List ℕ) → is_utf8 row ≡ true → fields_from 0 row ≡ [] → break_of row ≡ Some (0, BadId)
no_head row utf8 e = headless row utf8 (ap head_of e)

pub late_head : (row : List ℕ) (f : ℕ × List ℕ) (fs : List (ℕ × List ℕ)) → is_utf8 row ≡ true → fields_from 0 row ≡ f ∷ fs → f.0 ≢ 0 → break_of row ≡ Some (0, BadId)
late_head row f fs utf8 e late = headless row utf8 (ap head_of e ∙ ap (λ b. cond b (object_of f.1) None) (ne_eqb f.0 0 late))

abbrev nothing : Option Id
nothing = None

pub bad_head : (row : List ℕ) (f : ℕ × List ℕ) (fs : List (ℕ × List ℕ)) → is_utf8 row ≡ true → fields_from 0 row ≡ f ∷ fs → object_of f.1 ≡ None → break_of row ≡ Some (0, BadId)
bad_head row f fs utf8 e none = headless row utf8 (ap head_of e ∙ ap (λ o. cond (eqb f.0 0) o None) none ∙ one (eqb f.0 0))
  where
    one : (b : Bool) → cond b nothing nothing ≡ nothing
    one true = refl
    one false = refl

-- The first field is an id.

headed : (row : List ℕ) (f : ℕ × List ℕ) (fs : List (ℕ × List ℕ)) (o : Id) → fields_from 0 row ≡ f ∷ fs → f.0 ≡ 0 → object_of f.1 ≡ Some o → head_of (fields_from 0 row) ≡ Some o
headed row f fs o e first id = ap head_of e ∙ ap (λ b. cond b (object_of f.1) None) (eq-eqb f.0 0 first) ∙ id

fields_broken : (row : List ℕ) (f : ℕ × List ℕ) (fs : List (ℕ × List ℕ)) (o : Id) → is_utf8 row ≡ true → fields_from 0 row ≡ f ∷ fs → f.0 ≡ 0 → object_of f.1 ≡ Some o
    → break_of row ≡ failure_in (fields_tests o.kind [] fs)
fields_broken row f fs o utf8 e first id =
    broken_by row ∙ ap (λ b. tests_by b (head_of (fields_from 0 row)) (drop 1 (fields_from 0 row))) utf8
    ∙ ap (λ h. tests_by true h (drop 1 (fields_from 0 row))) (headed row f fs o e first id)
    ∙ ap (λ gs. failure_in (tests_with (Some o) (drop 1 gs))) e

-- the break of the fields is that of the line
pub bad_fields : (row : List ℕ) (f : ℕ × List ℕ) (fs : List (ℕ × List ℕ)) (o : Id) (end : ℕ) (e : OplError) → is_utf8 row ≡ true → fields_from 0 row ≡ f ∷ fs → f.0 ≡ 0 → object_of f.1 ≡ Some o
    → end ≤ length row → IsFieldsCause o.kind fs end e → IsRowCause row e
bad_fields row f fs o end NoMemory utf8 is first id within cause = tt
bad_fields row f fs o end (Broken b) utf8 is first id within cause =
    (fields_broken row f fs o utf8 is first id ∙ cause.0, (let near = cause.1 in omega arith))

-- Lines that spell something.

tags_alike : (o : Option (List Tag)) → unwrap_or (option_map tags_from o) [] ≡ tags_from (unwrap_or o [])
tags_alike None = refl
tags_alike (Some pairs) = refl

on_earth : (lon lat : ℤ) → unsigned_abs lon ≤ 1800000000 → unsigned_abs lat ≤ 900000000 → point_of (Some lon) (Some lat) ≡ Some (point_at lon lat)
on_earth lon lat east north =
    ap (λ b. cond (b && nat_le (unsigned_abs lat) 900000000) (Some (point_at lon lat)) None) (le-leb (unsigned_abs lon) 1800000000 east)
    ∙ ap (λ b. cond b (Some (point_at lon lat)) None) (le-leb (unsigned_abs lat) 900000000 north)

place_alike : (lon lat : Option ℤ) → ((z : ℤ) → lon ≡ Some z → unsigned_abs z ≤ 1800000000) → ((z : ℤ) → lat ≡ Some z → unsigned_abs z ≤ 900000000) → point_of lon lat ≡ place_from lon lat
place_alike None lat east north = refl
place_alike (Some x) None east north = refl
place_alike (Some x) (Some y) east north = on_earth x y (east x refl) (north y refl)

abbrev line_by : Id → List (ℕ × List ℕ) → List Tag → Option Point → Line
line_by o fs tags place =
    cond (found State gone_of false fs) (Gone o (found Version version_of 0 fs))
    (Live (record { id = o; version = found Version version_of 0 fs; tags = tags; place = place; refs = found Refs refs_of [] fs; members = found Members members_of [] fs }))

-- the values that are found make the line
found_line : (o : Id) (fs : List (ℕ × List ℕ)) → line_of_found o (found_in fs) ≡ line_from o fs
found_line o fs =
    ap (λ t. line_by o fs t (point_of (found Lon longitude_of None fs) (found Lat latitude_of None fs))) (tags_alike (value_in (letter_byte Tags) pairs_of fs))
    ∙ ap (λ p. line_by o fs (tags_from (found Tags pairs_of [] fs)) p)
    (place_alike (found Lon longitude_of None fs) (found Lat latitude_of None fs) (found_within Lon 1800000000 fs) (found_within Lat 900000000 fs))

pub good_row : (row : List ℕ) (f : ℕ × List ℕ) (fs : List (ℕ × List ℕ)) (o : Id) (values : Found) → is_utf8 row ≡ true → fields_from 0 row ≡ f ∷ fs → f.0 ≡ 0 → object_of f.1 ≡ Some o
    → failure_in (fields_tests o.kind [] fs) ≡ None → values ≡ found_in fs → line_of row ≡ Some (line_of_found o values)
unfolding line_of
good_row row f fs o values utf8 e first id none are =
    ap (λ b. cond b (line_with (head_of (fields_from 0 row)) (drop 1 (fields_from 0 row))) None) utf8
    ∙ ap (λ h. line_with h (drop 1 (fields_from 0 row))) (headed row f fs o e first id)
    ∙ ap (λ gs. line_with (Some o) (drop 1 gs)) e
    ∙ ap (λ b. cond b (Some (line_from o fs)) None) (good_fields o.kind fs none)
    ∙ ap Some (sym (found_line o fs) ∙ sym (ap (line_of_found o) are))
