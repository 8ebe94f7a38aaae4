-- What a text spells is good.
use Rattle.std.proofs.Common.{◌≡◌, ℕ, ◌+◌, ◌≤◌, List, [], ◌∷◌, ◌++◌, Bool, true, false, cond, ◌&&◌, not, eqb, length, drop, Option, Some, None, ℤ, pos, negsuc, neg_ℤ, unsigned_abs, refl, sym, ap, ◌∙◌, subst, arith, ◌^◌}
use Rattle.std.specs.Prelude.{find, unwrap_or, is_some}
use Rattle.std.specs.Option.{option_and_then, IfSome}
use Rattle.std.specs.List.{AllByRecursion}
use Rattle.std.specs.Ordering.{nat_cmp}
use Rattle.std.specs.Cmp.Lexicographic.{slice_cmp}
use Rattle.std.specs.Str.{is_utf8}
use Rattle.std.proofs.lemmas.Bool.{leb-true, eqb-true}
use Rattle.std.proofs.lemmas.Cmp.{nat_list_cmp_total}
use Rattle.std.proofs.lemmas.Int.{ints}
use Rattle.text_pieces.specs.Lines.{fields_from}
use Rattle.text_pieces.specs.Numbers.{id_of}
use Rattle.text_pieces.specs.Escapes.{text_of, unescaped}
use Rattle.live_model.specs.declared.ids.Kind.{Kind}
use Rattle.live_model.specs.declared.ids.Kind.TheVariants.{Node, Way, Relation}
use Rattle.live_model.specs.declared.objects.Tag.{Tag}
use Rattle.live_model.specs.declared.objects.Member.{Member}
use Rattle.live_model.specs.declared.objects.Line.{Line}
use Rattle.live_model.specs.declared.objects.Line.TheVariants.{Live, Gone}
use Rattle.live_model.specs.declared.opl.Letter.{Letter}
use Rattle.live_model.specs.declared.opl.Letter.TheVariants.{Version, State, Tags, Lon, Lat, Refs, Members}
use Rattle.live_model.specs.Ids.{Id, IsId, lifted_by}
use Rattle.live_model.specs.Points.{IsInGrid, point_at}
use Rattle.live_model.specs.Objects.{AreTags, HasParts, IsGood, IsGoodLine}
use Rattle.live_model.specs.FieldValues.{items_of, is_few, prepended, each_of, parted_at, object_of, ref_of, version_of, gone_of, coordinate_of, longitude_of, latitude_of, tag_of, pairs_of, tags_from, refs_of, member_from, member_of, members_of}
use Rattle.live_model.specs.ObjectLines.{letter_byte, letter_of, is_value, is_field, are_fields, first_of, comes_in, value_in, found, place_from, line_from, head_of, line_with, line_of}
use Rattle.live_model.specs.OplTexts.{spelled_lines}
use Rattle.live_model.proofs.ValueBounds.{id_within, object_within, coordinate_within}
use Rattle.ordered_lists.proofs.PutAll.{rising-put_all, length-put_all}

first_true : (a b : Bool) → (a && b) ≡ true → a ≡ true
first_true true b e = refl
first_true false b e = absurd (cc)

second_true : (a b : Bool) → (a && b) ≡ true → b ≡ true
second_true true b e = e
second_true false b e = absurd (cc)

-- What is found.

-- what holds of each value of a letter that a field of this kind has holds of the value that is found
found_is : {A : Type 0} (P : A → Type 0) (kind : Kind) (letter : Letter) (read : List ℕ → Option A) (missing : A)
    → ((field : List ℕ) (x : A) → first_of field ≡ letter_byte letter → is_field kind field ≡ true → read (drop 1 field) ≡ Some x → P x)
    → P missing → (fs : List (ℕ × List ℕ)) → are_fields kind [] fs ≡ true → P (found letter read missing fs)
found_is {A} P kind letter read missing each none fs are = one (value_in (letter_byte letter) read fs) refl
  where
    among : (before : List ℕ) (gs : List (ℕ × List ℕ)) (x : A) → are_fields kind before gs ≡ true → value_in (letter_byte letter) read gs ≡ Some x → P x
    among before [] x are e = absurd (cc)
    among before (f ∷ gs) x are e = two (eqb (first_of f.1) (letter_byte letter)) refl e (among (before ++ first_of f.1 ∷ []) gs x)
      where
        two : (b : Bool) → eqb (first_of f.1) (letter_byte letter) ≡ b
            → option_and_then (λ g. read (drop 1 g.1)) (cond b (Some f) (find (λ g. eqb (first_of g.1) (letter_byte letter)) gs)) ≡ Some x
            → (are_fields kind (before ++ first_of f.1 ∷ []) gs ≡ true → value_in (letter_byte letter) read gs ≡ Some x → P x)
            → P x
        two false t e again = again (second_true (is_field kind f.1 && not (comes_in before (first_of f.1))) (are_fields kind (before ++ first_of f.1 ∷ []) gs) are) e
        two true t e again =
            let both : (is_field kind f.1 && not (comes_in before (first_of f.1))) ≡ true = first_true (is_field kind f.1 && not (comes_in before (first_of f.1))) (are_fields kind (before ++ first_of f.1 ∷ []) gs) are in
            each f.1 x (eqb-true (first_of f.1) (letter_byte letter) t) (first_true (is_field kind f.1) (not (comes_in before (first_of f.1))) both) e

    one : (o : Option A) → value_in (letter_byte letter) read fs ≡ o → P (unwrap_or o missing)
    one None e = none
    one (Some x) e = among [] fs x are e

-- The place.

turned : (z : ℤ) → unsigned_abs (neg_ℤ z) ≡ unsigned_abs z
turned z = omega (arith, ints)

lifted_most : (by : ℕ) (z : ℤ) → unsigned_abs z ≤ by → lifted_by by z ≤ by + by
lifted_most by (pos n) within = omega (arith, ints)
lifted_most by (negsuc n) within = omega (arith, ints)

point_in_grid : (lon lat : ℤ) → unsigned_abs lon ≤ 1800000000 → unsigned_abs lat ≤ 900000000 → IsInGrid (point_at lon lat)
point_in_grid lon lat east north =
    (lifted_most 1800000000 lon east, lifted_most 900000000 (neg_ℤ lat) (let e = turned lat in omega arith))

-- a coordinate that is found is within its bound
pub found_within : (letter : Letter) (most : ℕ) (fs : List (ℕ × List ℕ)) (z : ℤ) → found letter (coordinate_of most) None fs ≡ Some z → unsigned_abs z ≤ most
found_within letter most fs z e = one (find (λ f. eqb (first_of f.1) (letter_byte letter)) fs) e
  where
    two : (value : List ℕ) (o : Option (Option ℤ)) → coordinate_of most value ≡ o → unwrap_or o None ≡ Some z → unsigned_abs z ≤ most
    two value None read e = absurd (cc)
    two value (Some w) read e = coordinate_within most value z (read ∙ ap Some e)

    one : (o : Option (ℕ × List ℕ)) → unwrap_or (option_and_then (λ f. coordinate_of most (drop 1 f.1)) o) None ≡ Some z → unsigned_abs z ≤ most
    one None e = absurd (cc)
    one (Some f) e = two (drop 1 f.1) (coordinate_of most (drop 1 f.1)) refl e

place_in_grid : (lon lat : Option ℤ) → ((z : ℤ) → lon ≡ Some z → unsigned_abs z ≤ 1800000000) → ((z : ℤ) → lat ≡ Some z → unsigned_abs z ≤ 900000000) → IfSome (place_from lon lat) IsInGrid
place_in_grid None lat east north = tt
place_in_grid (Some x) None east north = tt
place_in_grid (Some x) (Some y) east north = point_in_grid x y (east x refl) (north y refl)

-- Lists.

each_length : {A : Type 0} (read : List ℕ → Option A) (items : List (List ℕ)) (xs : List A) → each_of read items ≡ Some xs → length xs ≡ length items
each_length read [] xs e = let same : [] ≡ xs = cc in sym (ap length same)
each_length {A} read (item ∷ items) xs e = one (read item) (each_of read items) refl e (each_length read items)
  where
    one : (o : Option A) (os : Option (List A)) → each_of read items ≡ os → prepended o os ≡ Some xs → ((ys : List A) → each_of read items ≡ Some ys → length ys ≡ length items) → length xs ≡ length (item ∷ items)
    one None os rest e again = absurd (cc)
    one (Some x) None rest e again = absurd (cc)
    one (Some x) (Some ys) rest e again =
        let same : x ∷ ys ≡ xs = cc in
        let long : length (x ∷ ys) ≡ length xs = ap length same in
        let short : length ys ≡ length items = again ys rest in
        omega arith

-- what holds of each item that is read holds of all of them
each_all : {A : Type 0} (P : A → Type 0) (read : List ℕ → Option A) → ((item : List ℕ) (x : A) → read item ≡ Some x → P x)
    → (items : List (List ℕ)) (xs : List A) → each_of read items ≡ Some xs → AllByRecursion P xs
each_all P read each [] xs e = let same : [] ≡ xs = cc in subst (AllByRecursion P) same tt
each_all {A} P read each (item ∷ items) xs e = one (read item) (each_of read items) refl refl e (each_all P read each items)
  where
    one : (o : Option A) (os : Option (List A)) → read item ≡ o → each_of read items ≡ os → prepended o os ≡ Some xs → ((ys : List A) → each_of read items ≡ Some ys → AllByRecursion P ys) → AllByRecursion P xs
    one None os first rest e again = absurd (cc)
    one (Some x) None first rest e again = absurd (cc)
    one (Some x) (Some ys) first rest e again =
        let same : x ∷ ys ≡ xs = cc in
        subst (AllByRecursion P) same (each item x first, again ys rest)

each_few : {A : Type 0} (read : List ℕ → Option A) (value : List ℕ) (xs : List A) → is_few value ≡ true → each_of read (items_of value) ≡ Some xs → length xs ≤ 65535
each_few read value xs few e =
    let short : length (items_of value) ≤ 65535 = leb-true (length (items_of value)) 65535 few in
    let long : length xs ≡ length (items_of value) = each_length read (items_of value) xs e in
    omega arith

-- The tags.

tags_letter : (kind : Kind) (field : List ℕ) → first_of field ≡ 84 → is_field kind field ≡ is_value Tags (drop 1 field)
unfolding letter_of
tags_letter Node field e = rw e refl
tags_letter Way field e = rw e refl
tags_letter Relation field e = rw e refl

few_tags : (kind : Kind) (field : List ℕ) (pairs : List Tag) → first_of field ≡ 84 → is_field kind field ≡ true → pairs_of (drop 1 field) ≡ Some pairs → length pairs ≤ 65535
unfolding pairs_of
few_tags kind field pairs first is e =
    let value : is_value Tags (drop 1 field) ≡ true = sym (tags_letter kind field first) ∙ is in
    let both = second_true (is_some (unescaped (drop 1 field))) (is_some (pairs_of (drop 1 field)) && is_few (drop 1 field)) value in
    each_few tag_of (drop 1 field) pairs (second_true (is_some (pairs_of (drop 1 field))) (is_few (drop 1 field)) both) e

tags_rise : (pairs : List Tag) → AreTags (tags_from pairs)
tags_rise pairs = rising-put_all (slice_cmp nat_cmp) (λ t. t.key) nat_list_cmp_total [] pairs tt

-- The references.

refs_letter : (field : List ℕ) → first_of field ≡ 78 → is_field Way field ≡ is_value Refs (drop 1 field)
unfolding letter_of
refs_letter field e = rw e refl

few_refs : (field : List ℕ) (refs : List ℤ) → first_of field ≡ 78 → is_field Way field ≡ true → refs_of (drop 1 field) ≡ Some refs → length refs ≤ 65535
unfolding refs_of
few_refs field refs first is e =
    let value : is_value Refs (drop 1 field) ≡ true = sym (refs_letter field first) ∙ is in
    each_few ref_of (drop 1 field) refs (second_true (is_some (refs_of (drop 1 field))) (is_few (drop 1 field)) value) e

ref_within : (item : List ℕ) (z : ℤ) → ref_of item ≡ Some z → unsigned_abs z ≤ 2 ^ 48
unfolding ref_of
ref_within [] z e = absurd (cc)
ref_within (c ∷ cs) z e = one (eqb c 110) e
  where
    one : (b : Bool) → cond b (id_of cs) None ≡ Some z → unsigned_abs z ≤ 2 ^ 48
    one true e = id_within cs z e
    one false e = absurd (cc)

refs_within : (value : List ℕ) (refs : List ℤ) → refs_of value ≡ Some refs → AllByRecursion (λ n. unsigned_abs n ≤ 2 ^ 48) refs
unfolding refs_of
refs_within value refs e = each_all (λ n. unsigned_abs n ≤ 2 ^ 48) ref_of ref_within (items_of value) refs e

-- The members.

members_letter : (field : List ℕ) → first_of field ≡ 77 → is_field Relation field ≡ is_value Members (drop 1 field)
unfolding letter_of
members_letter field e = rw e refl

few_members : (field : List ℕ) (members : List Member) → first_of field ≡ 77 → is_field Relation field ≡ true → members_of (drop 1 field) ≡ Some members → length members ≤ 65535
unfolding members_of
few_members field members first is e =
    let value : is_value Members (drop 1 field) ≡ true = sym (members_letter field first) ∙ is in
    let both = second_true (is_some (unescaped (drop 1 field))) (is_some (members_of (drop 1 field)) && is_few (drop 1 field)) value in
    each_few member_of (drop 1 field) members (second_true (is_some (members_of (drop 1 field))) (is_few (drop 1 field)) both) e

member_within : (item : List ℕ) (m : Member) → member_of item ≡ Some m → IsId m.target
unfolding member_of
member_within item m e = one (parted_at 64 item) e
  where
    two : (bytes : List ℕ) (o : Option Id) (r : Option (List ℕ)) → object_of bytes ≡ o → member_from o r ≡ Some m → IsId m.target
    two bytes None r read e = absurd (cc)
    two bytes (Some target) None read e = absurd (cc)
    two bytes (Some target) (Some role) read e =
        let same : record { target = target; role = role } ≡ m = cc in
        subst IsId (ap (λ (n : Member). n.target) same) (object_within bytes target read)

    one : (o : Option (List ℕ × List ℕ)) → option_and_then (λ parts. member_from (object_of parts.0) (text_of parts.1)) o ≡ Some m → IsId m.target
    one None e = absurd (cc)
    one (Some parts) e = two parts.0 (object_of parts.0) (text_of parts.1) refl e

members_within : (value : List ℕ) (members : List Member) → members_of value ≡ Some members → AllByRecursion (λ m. IsId m.target) members
unfolding members_of
members_within value members e = each_all (λ m. IsId m.target) member_of member_within (items_of value) members e

-- Which parts an object has.

-- no field of this kind has this letter
abbrev pub HasNone : Kind → Letter → Type 0
HasNone kind letter = (field : List ℕ) → first_of field ≡ letter_byte letter → is_field kind field ≡ false

none_found : {A : Type 0} (kind : Kind) (letter : Letter) (read : List ℕ → Option A) (missing : A) (fs : List (ℕ × List ℕ))
    → HasNone kind letter → are_fields kind [] fs ≡ true → found letter read missing fs ≡ missing
none_found kind letter read missing fs none are =
    found_is (λ x. x ≡ missing) kind letter read missing (λ field x first is e. (let no_field : is_field kind field ≡ false = none field first in absurd (cc))) refl fs are

none_place : (lon lat : Option ℤ) → lon ≡ None → place_from lon lat ≡ None
none_place lon lat e = ap (λ x. place_from x lat) e ∙ refl

node_refs : HasNone Node Refs
unfolding letter_of
node_refs field e = rw e refl

node_members : HasNone Node Members
unfolding letter_of
node_members field e = rw e refl

way_lon : HasNone Way Lon
unfolding letter_of
way_lon field e = rw e refl

way_members : HasNone Way Members
unfolding letter_of
way_members field e = rw e refl

relation_lon : HasNone Relation Lon
unfolding letter_of
relation_lon field e = rw e refl

relation_refs : HasNone Relation Refs
unfolding letter_of
relation_refs field e = rw e refl

has_parts : (kind : Kind) (fs : List (ℕ × List ℕ)) → are_fields kind [] fs ≡ true
    → HasParts kind (place_from (found Lon longitude_of None fs) (found Lat latitude_of None fs)) (found Refs refs_of [] fs) (found Members members_of [] fs)
has_parts Node fs are = (none_found Node Refs refs_of [] fs node_refs are, none_found Node Members members_of [] fs node_members are)
has_parts Way fs are =
    (none_place (found Lon longitude_of None fs) (found Lat latitude_of None fs) (none_found Way Lon longitude_of None fs way_lon are), none_found Way Members members_of [] fs way_members are)
has_parts Relation fs are =
    (none_place (found Lon longitude_of None fs) (found Lat latitude_of None fs) (none_found Relation Lon longitude_of None fs relation_lon are), none_found Relation Refs refs_of [] fs relation_refs are)

found_few_refs : (kind : Kind) (fs : List (ℕ × List ℕ)) → are_fields kind [] fs ≡ true → length (found Refs refs_of [] fs) ≤ 65535
found_few_refs Node fs are = let none = ap length (none_found Node Refs refs_of [] fs node_refs are) in omega arith
found_few_refs Way fs are = found_is (λ xs. length xs ≤ 65535) Way Refs refs_of [] few_refs (omega arith) fs are
found_few_refs Relation fs are = let none = ap length (none_found Relation Refs refs_of [] fs relation_refs are) in omega arith

found_few_members : (kind : Kind) (fs : List (ℕ × List ℕ)) → are_fields kind [] fs ≡ true → length (found Members members_of [] fs) ≤ 65535
found_few_members Node fs are = let none = ap length (none_found Node Members members_of [] fs node_members are) in omega arith
found_few_members Way fs are = let none = ap length (none_found Way Members members_of [] fs way_members are) in omega arith
found_few_members Relation fs are = found_is (λ xs. length xs ≤ 65535) Relation Members members_of [] few_members (omega arith) fs are

-- The object.

line_from_good : (o : Id) (fs : List (ℕ × List ℕ)) → IsId o → are_fields o.kind [] fs ≡ true → IsGoodLine (line_from o fs)
line_from_good o fs id are = one (found State gone_of false fs)
  where
    entity : IsGood (record {
      id = o;
      version = found Version version_of 0 fs;
      tags = tags_from (found Tags pairs_of [] fs);
      place = place_from (found Lon longitude_of None fs) (found Lat latitude_of None fs);
      refs = found Refs refs_of [] fs;
      members = found Members members_of [] fs;
    })
    entity =
        let short : length (found Tags pairs_of [] fs) ≤ 65535 = found_is (λ xs. length xs ≤ 65535) o.kind Tags pairs_of [] (few_tags o.kind) (omega arith) fs are in record {
          id = id;
          tags = tags_rise (found Tags pairs_of [] fs);
          parts = has_parts o.kind fs are;
          place = place_in_grid (found Lon longitude_of None fs) (found Lat latitude_of None fs) (found_within Lon 1800000000 fs) (found_within Lat 900000000 fs);
          few_tags = (let long = length-put_all (slice_cmp nat_cmp) (λ (t : Tag). t.key) nat_list_cmp_total [] (found Tags pairs_of [] fs) in omega arith);
          few_refs = found_few_refs o.kind fs are;
          few_members = found_few_members o.kind fs are;
          refs = found_is (AllByRecursion (λ n. unsigned_abs n ≤ 2 ^ 48)) o.kind Refs refs_of [] (λ field refs first is e. refs_within (drop 1 field) refs e) tt fs are;
          members = found_is (AllByRecursion (λ m. IsId m.target)) o.kind Members members_of [] (λ field members first is e. members_within (drop 1 field) members e) tt fs are;
        }

    one : (b : Bool) → IsGoodLine (cond b (Gone o (found Version version_of 0 fs)) (Live (record {
      id = o;
      version = found Version version_of 0 fs;
      tags = tags_from (found Tags pairs_of [] fs);
      place = place_from (found Lon longitude_of None fs) (found Lat latitude_of None fs);
      refs = found Refs refs_of [] fs;
      members = found Members members_of [] fs;
    })))
    one true = id
    one false = entity

line_good : (row : List ℕ) (line : Line) → line_of row ≡ Some line → IsGoodLine line
unfolding line_of
line_good row line e = utf8 (is_utf8 row) e
  where
    three : (o : Id) (fs : List (ℕ × List ℕ)) (b : Bool) → IsId o → are_fields o.kind [] fs ≡ b → cond b (Some (line_from o fs)) None ≡ Some line → IsGoodLine line
    three o fs false id are e = absurd (cc)
    three o fs true id are e = let same : line_from o fs ≡ line = cc in subst IsGoodLine same (line_from_good o fs id are)

    two : (bytes : List ℕ) (fs : List (ℕ × List ℕ)) (o : Option Id) → object_of bytes ≡ o → line_with o fs ≡ Some line → IsGoodLine line
    two bytes fs None read e = absurd (cc)
    two bytes fs (Some o) read e = three o fs (are_fields o.kind [] fs) (object_within bytes o read) refl e

    head : (at : ℕ) (bytes : List ℕ) (fs : List (ℕ × List ℕ)) (b : Bool) → line_with (cond b (object_of bytes) None) fs ≡ Some line → IsGoodLine line
    head at bytes fs false e = absurd (cc)
    head at bytes fs true e = two bytes fs (object_of bytes) refl e

    one : (fs : List (ℕ × List ℕ)) → line_with (head_of fs) (drop 1 fs) ≡ Some line → IsGoodLine line
    one [] e = absurd (cc)
    one (f ∷ fs) e = head f.0 f.1 fs (eqb f.0 0) e

    utf8 : (b : Bool) → cond b (line_with (head_of (fields_from 0 row)) (drop 1 (fields_from 0 row))) None ≡ Some line → IsGoodLine line
    utf8 false e = absurd (cc)
    utf8 true e = one (fields_from 0 row) e

-- The lines of a text are good.
pub lines_good : (rs : List (ℕ × List ℕ)) (lines : List Line) → spelled_lines rs ≡ Some lines → AllByRecursion IsGoodLine lines
lines_good [] lines e = let same : [] ≡ lines = cc in subst (AllByRecursion IsGoodLine) same tt
lines_good (r ∷ rs) lines e = one (line_of r.1) (spelled_lines rs) refl refl e (lines_good rs)
  where
    one : (l : Option Line) (ls : Option (List Line)) → line_of r.1 ≡ l → spelled_lines rs ≡ ls → prepended l ls ≡ Some lines
        → ((xs : List Line) → spelled_lines rs ≡ Some xs → AllByRecursion IsGoodLine xs) → AllByRecursion IsGoodLine lines
    one None ls read rest e again = absurd (cc)
    one (Some x) None read rest e again = absurd (cc)
    one (Some x) (Some xs) read rest e again =
        let same : x ∷ xs ≡ lines = cc in
        subst (AllByRecursion IsGoodLine) same (line_good r.1 x read, again xs rest)
