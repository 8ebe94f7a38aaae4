-- The values of canonical lines are read back.
use Rattle.std.proofs.Common.{◌≡◌, ◌≢◌, ℕ, ◌/◌, ◌%◌, ◌<◌, ◌≤◌, ◌^◌, true, List, [], ◌∷◌, length, refl, ap, ◌∙◌, arith, Option, Some, length-append}
use Rattle.std.specs.Prelude.{ℤ, pos, negsuc, neg_ℤ, ◌-ℤ◌, unsigned_abs, is_some}
use Rattle.std.specs.Option.{option_map, option_and_then}
use Rattle.std.specs.List.{AllByRecursion}
use Rattle.std.specs.Fmt.{decimal as printed, signed_decimal}
use Rattle.std.proofs.lemmas.Bool.{le-leb}
use Rattle.std.proofs.lemmas.Cmp.{nat_list_cmp_total}
use Rattle.std.proofs.lemmas.Int.{ints}
use Rattle.std.proofs.lemmas.List.{length-map}
use Rattle.std.specs.Ordering.{nat_cmp}
use Rattle.std.specs.Cmp.Lexicographic.{slice_cmp}
use Rattle.text_pieces.specs.Coordinates.{degrees_of, degrees_text, fraction_text, magnitude_text}
use Rattle.text_pieces.specs.Escapes.{unescaped, text_of, escaped}
use Rattle.text_pieces.proofs.NumberLaw.{printed_is, number_of-printed, id_of-printed}
use Rattle.text_pieces.proofs.DegreesLaw.{degrees_of-written}
use Rattle.text_pieces.proofs.EscapeLaw.{text_of-escaped}
use Rattle.live_model.specs.declared.ids.Kind.{Kind}
use Rattle.live_model.specs.declared.ids.Kind.TheVariants.{Node, Way, Relation}
use Rattle.live_model.specs.declared.points.Point.{Point}
use Rattle.live_model.specs.declared.objects.Tag.{Tag}
use Rattle.live_model.specs.declared.objects.Member.{Member}
use Rattle.live_model.specs.Ids.{Id, IsId, lifted_by}
use Rattle.live_model.specs.Points.{IsInGrid, longitude, latitude, point_at}
use Rattle.live_model.specs.Objects.{AreTags}
use Rattle.live_model.specs.FieldValues.{is_few, items_of, object_of, ref_of, version_of, coordinate_of, tag_of, tag_from, tags_from, pairs_of, refs_of, member_of, member_from, members_of, id_from}
use Rattle.live_model.specs.CanonicalLines.{id_text, tag_text, ref_text, member_text, listed}
use Rattle.ordered_lists.proofs.PutAll.{put_all-rising}
use Rattle.live_model.proofs.CanonicalBytes.{IsPlain, ArePlain, all_weaker, all_append, IsNumeral, signed_numeral, numerals_plain, escaped_plain}
use Rattle.live_model.proofs.CanonicalParts.{IsItem, items_of-listed, each_of-listed, parted_at-first, KeepsEscapes, keeps_append, keeps_byte, keeps_bytes, keeps_escaped, keeps_listed, good_alone}

-- Ids.

pub object_back : (o : Id) → IsId o → object_of (id_text o) ≡ Some o
unfolding object_of id_text
object_back o is = one o.kind o.number is
  where
    one : (k : Kind) (z : ℤ) → unsigned_abs z ≤ 2 ^ 48 → object_of (id_text (record { kind = k; number = z })) ≡ Some (record { kind = k; number = z })
    one Node z is = ap (id_from (Some Node)) (id_of-printed z is)
    one Way z is = ap (id_from (Some Way)) (id_of-printed z is)
    one Relation z is = ap (id_from (Some Relation)) (id_of-printed z is)

letter_plain : (c : ℕ) → 65 ≤ c → IsPlain c
letter_plain c high = record { visible = omega arith; comma = λ e. omega arith; equals = λ e. omega arith; at_sign = λ e. omega arith }

pub id_plain : (o : Id) → IsId o → ArePlain (id_text o)
unfolding id_text
id_plain o is = one o.kind o.number is
  where
    one : (k : Kind) (z : ℤ) → unsigned_abs z ≤ 2 ^ 48 → ArePlain (id_text (record { kind = k; number = z }))
    one Node z is = (letter_plain 110 (omega arith), numerals_plain (signed_decimal z) (signed_numeral z (omega arith)))
    one Way z is = (letter_plain 119 (omega arith), numerals_plain (signed_decimal z) (signed_numeral z (omega arith)))
    one Relation z is = (letter_plain 114 (omega arith), numerals_plain (signed_decimal z) (signed_numeral z (omega arith)))

pub ref_back : (n : ℤ) → unsigned_abs n ≤ 2 ^ 48 → ref_of (ref_text n) ≡ Some n
unfolding ref_of ref_text
ref_back n is = id_of-printed n is

pub ref_plain : (n : ℤ) → unsigned_abs n ≤ 2 ^ 48 → ArePlain (ref_text n)
unfolding ref_text
ref_plain n is = (letter_plain 110 (omega arith), numerals_plain (signed_decimal n) (signed_numeral n (omega arith)))

-- Versions.

pub version_back : (version : ℕ) → version < 2 ^ 32 → version_of (printed version) ≡ Some version
unfolding version_of
version_back version fits = number_of-printed 10 4294967295 version (omega arith) (omega arith) (omega arith) (omega arith)

-- Coordinates.

coordinate_some : (most : ℕ) (bytes : List ℕ) → 0 < length bytes → coordinate_of most bytes ≡ option_map Some (degrees_of most bytes)
unfolding coordinate_of
coordinate_some most [] some = absurd (omega arith)
coordinate_some most (c ∷ cs) some = refl

degrees_some : (z : ℤ) → unsigned_abs z ≤ 1800000000 → 0 < length (degrees_text z)
unfolding degrees_text magnitude_text
degrees_some (pos n) low = let some = (printed_is (n / 10000000) (omega arith)).some in omega (arith, length-append (printed (n / 10000000)) (fraction_text (n % 10000000)))
degrees_some (negsuc n) low = omega arith

pub coordinate_back : (most : ℕ) (z : ℤ) → unsigned_abs z ≤ most → unsigned_abs z ≤ 1800000000 → coordinate_of most (degrees_text z) ≡ Some (Some z)
coordinate_back most z low high = coordinate_some most (degrees_text z) (degrees_some z high) ∙ ap (option_map Some) (degrees_of-written most z low high)

lifted_back : (by n : ℕ) → lifted_by by (pos n -ℤ pos by) ≡ n
lifted_back by n = one (pos n -ℤ pos by) refl
  where
    one : (z : ℤ) → pos n -ℤ pos by ≡ z → lifted_by by z ≡ n
    one (pos k) e = omega (arith, ints)
    one (negsuc k) e = omega (arith, ints)

lifted_below : (by n : ℕ) → lifted_by by (neg_ℤ (pos by -ℤ pos n)) ≡ n
lifted_below by n = one (neg_ℤ (pos by -ℤ pos n)) refl
  where
    one : (z : ℤ) → neg_ℤ (pos by -ℤ pos n) ≡ z → lifted_by by z ≡ n
    one (pos k) e = omega (arith, ints)
    one (negsuc k) e = omega (arith, ints)

pub point_back : (p : Point) → point_at (longitude p) (latitude p) ≡ p
point_back p = one (lifted_by 1800000000 (longitude p)) (lifted_by 900000000 (neg_ℤ (latitude p))) (lifted_back 1800000000 p.x) (lifted_below 900000000 p.y)
  where
    one : (x y : ℕ) → x ≡ p.x → y ≡ p.y → record { x = x; y = y } ≡ p
    one x y e f = rw (e, f) refl

pub longitude_within : (p : Point) → IsInGrid p → unsigned_abs (longitude p) ≤ 1800000000
longitude_within p is = let wide = is.0 in omega (arith, ints)

pub latitude_within : (p : Point) → IsInGrid p → unsigned_abs (latitude p) ≤ 900000000
latitude_within p is = let wide = is.1 in omega (arith, ints)

-- Lists.

module _ {A : Type 0} (read : List ℕ → Option A) (text : A → List ℕ) where
  pub few_listed : (xs : List A) → AllByRecursion (IsItem read text) xs → length xs ≤ 65535 → is_few (listed text xs) ≡ true
  few_listed xs items few =
      let count : length (items_of (listed text xs)) ≡ length xs = ap length (items_of-listed read text xs items) ∙ length-map xs text in
      le-leb (length (items_of (listed text xs))) 65535 (omega arith)

-- Tags.

tag_back : (t : Tag) → tag_of (tag_text t) ≡ Some t
unfolding tag_of tag_text
tag_back t =
    ap (option_and_then (λ parts. tag_from (text_of parts.0) (text_of parts.1))) (parted_at-first 61 (escaped t.key) (escaped t.value) refl (all_weaker IsPlain (λ c. c ≢ 61) (λ c is. is.equals) (escaped t.key) (escaped_plain t.key)))
    ∙ rw (text_of-escaped t.key, text_of-escaped t.value) refl

no_comma : (bytes : List ℕ) → ArePlain bytes → AllByRecursion (λ c. c ≢ 44) bytes
no_comma bytes all = all_weaker IsPlain (λ c. c ≢ 44) (λ c is. is.comma) bytes all

tag_item : (t : Tag) → IsItem tag_of tag_text t
unfolding tag_text
tag_item t = record {
  back = tag_back t;
  whole = all_append (λ c. c ≢ 44) (escaped t.key) (61 ∷ escaped t.value) (no_comma (escaped t.key) (escaped_plain t.key)) ((λ e. omega arith), no_comma (escaped t.value) (escaped_plain t.value));
  some = omega (arith, length-append (escaped t.key) (61 ∷ escaped t.value));
}

pub tag_items : (tags : List Tag) → AllByRecursion (IsItem tag_of tag_text) tags
tag_items [] = tt
tag_items (t ∷ ts) = (tag_item t, tag_items ts)

pub pairs_back : (tags : List Tag) → pairs_of (listed tag_text tags) ≡ Some tags
unfolding pairs_of
pairs_back tags = each_of-listed tag_of tag_text tags (tag_items tags)

pub tags_back : (tags : List Tag) → AreTags tags → tags_from tags ≡ tags
tags_back tags rising = put_all-rising (slice_cmp nat_cmp) (λ t. t.key) nat_list_cmp_total tags rising

tag_keeps : (t : Tag) → KeepsEscapes (tag_text t)
unfolding tag_text
tag_keeps t = keeps_append (escaped t.key) (61 ∷ escaped t.value) (keeps_escaped t.key) (keeps_append (61 ∷ []) (escaped t.value) (keeps_byte 61 (λ e. omega arith)) (keeps_escaped t.value))

pub tags_escapes : (tags : List Tag) → is_some (unescaped (listed tag_text tags)) ≡ true
tags_escapes tags = good_alone (listed tag_text tags) (keeps_listed Tag tag_text tags (each tags))
  where
    each : (tags : List Tag) → AllByRecursion (λ t. KeepsEscapes (tag_text t)) tags
    each [] = tt
    each (t ∷ ts) = (tag_keeps t, each ts)

-- References.

pub ref_items : (refs : List ℤ) → AllByRecursion (λ n. unsigned_abs n ≤ 2 ^ 48) refs → AllByRecursion (IsItem ref_of ref_text) refs
unfolding ref_text
ref_items [] are = tt
ref_items (n ∷ ns) are = (record { back = ref_back n are.0; whole = no_comma (ref_text n) (ref_plain n are.0); some = omega arith }, ref_items ns are.1)

pub refs_back : (refs : List ℤ) → AllByRecursion (λ n. unsigned_abs n ≤ 2 ^ 48) refs → refs_of (listed ref_text refs) ≡ Some refs
unfolding refs_of
refs_back refs are = each_of-listed ref_of ref_text refs (ref_items refs are)

-- Members.

member_back : (m : Member) → IsId m.target → member_of (member_text m) ≡ Some m
unfolding member_of member_text
member_back m is =
    ap (option_and_then (λ parts. member_from (object_of parts.0) (text_of parts.1))) (parted_at-first 64 (id_text m.target) (escaped m.role) refl (all_weaker IsPlain (λ c. c ≢ 64) (λ c is. is.at_sign) (id_text m.target) (id_plain m.target is)))
    ∙ rw (object_back m.target is, text_of-escaped m.role) refl

pub member_items : (members : List Member) → AllByRecursion (λ m. IsId m.target) members → AllByRecursion (IsItem member_of member_text) members
unfolding member_text
member_items [] are = tt
member_items (m ∷ ms) are = (
  record {
    back = member_back m are.0;
    whole = all_append (λ c. c ≢ 44) (id_text m.target) (64 ∷ escaped m.role) (no_comma (id_text m.target) (id_plain m.target are.0)) ((λ e. omega arith), no_comma (escaped m.role) (escaped_plain m.role));
    some = omega (arith, length-append (id_text m.target) (64 ∷ escaped m.role));
  },
  member_items ms are.1,
)

pub members_back : (members : List Member) → AllByRecursion (λ m. IsId m.target) members → members_of (listed member_text members) ≡ Some members
unfolding members_of
members_back members are = each_of-listed member_of member_text members (member_items members are)

signed_keeps : (z : ℤ) → unsigned_abs z ≤ 2 ^ 48 → AllByRecursion (λ c. c ≢ 37) (signed_decimal z)
signed_keeps z low = all_weaker IsNumeral (λ c. c ≢ 37) (λ c is e. let above = is.0 in omega arith) (signed_decimal z) (signed_numeral z (omega arith))

id_keeps : (o : Id) → IsId o → KeepsEscapes (id_text o)
unfolding id_text
id_keeps o is = one o.kind o.number is
  where
    one : (k : Kind) (z : ℤ) → unsigned_abs z ≤ 2 ^ 48 → KeepsEscapes (id_text (record { kind = k; number = z }))
    one Node z is = keeps_bytes (110 ∷ signed_decimal z) ((λ e. omega arith), signed_keeps z is)
    one Way z is = keeps_bytes (119 ∷ signed_decimal z) ((λ e. omega arith), signed_keeps z is)
    one Relation z is = keeps_bytes (114 ∷ signed_decimal z) ((λ e. omega arith), signed_keeps z is)

member_keeps : (m : Member) → IsId m.target → KeepsEscapes (member_text m)
unfolding member_text
member_keeps m is = keeps_append (id_text m.target) (64 ∷ escaped m.role) (id_keeps m.target is) (keeps_append (64 ∷ []) (escaped m.role) (keeps_byte 64 (λ e. omega arith)) (keeps_escaped m.role))

pub members_escapes : (members : List Member) → AllByRecursion (λ m. IsId m.target) members → is_some (unescaped (listed member_text members)) ≡ true
members_escapes members are = good_alone (listed member_text members) (keeps_listed Member member_text members (each members are))
  where
    each : (members : List Member) → AllByRecursion (λ m. IsId m.target) members → AllByRecursion (λ m. KeepsEscapes (member_text m)) members
    each [] are = tt
    each (m ∷ ms) are = (member_keeps m are.0, each ms are.1)
