-- The fields of a line in turn, and the values that are found.
use Rattle.std.proofs.Common.{◌≡◌, ℕ, ◌<◌, ◌≤◌, List, [], ◌∷◌, ◌++◌, Bool, true, false, cond, not, ◌&&◌, ◌||◌, eqb, length, take, drop, Option, Some, None, refl, sym, ap, ◌∙◌, subst, arith, IsTrue, ℤ}
use Rattle.std.specs.Prelude.{is_some}
use Rattle.std.specs.Option.{option_map, option_or}
use Rattle.std.specs.Str.{is_utf8}
use Rattle.std.proofs.lemmas.Bool.{eqb-true}
use Rattle.std.proofs.lemmas.List.Folds.{list_any-append}
use Rattle.text_pieces.specs.Escapes.{unescaped}
use Rattle.live_model.specs.declared.ids.Kind.{Kind}
use Rattle.live_model.specs.declared.ids.Kind.TheVariants.{Node, Way, Relation}
use Rattle.live_model.specs.declared.objects.Tag.{Tag}
use Rattle.live_model.specs.declared.objects.Member.{Member}
use Rattle.live_model.specs.declared.opl.Letter.{Letter}
use Rattle.live_model.specs.declared.opl.Letter.TheVariants.{Version, State, Change, Time, UserId, UserName, Tags, Lon, Lat, Refs, Members}
use Rattle.live_model.specs.declared.opl.OplKind.{OplKind}
use Rattle.live_model.specs.declared.opl.OplKind.TheVariants.{BadField, Twice}
use Rattle.live_model.specs.FieldValues.{version_of, gone_of, longitude_of, latitude_of, pairs_of, tags_from, refs_of, members_of, is_few}
use Rattle.live_model.specs.ObjectLines.{letter_byte, common_letter_of, letter_of, is_value, first_of, comes_in}
use Rattle.live_model.specs.LineTests.{value_tests, letter_tests, field_tests, fields_tests, failure_in, failure_kind}
use Rattle.live_model.proofs.LineLaw.{field_step, good_value}
use Rattle.opl_reader.specs.declared.rows.Found.{Found}
use Rattle.opl_reader.specs.declared.OplError.{OplError}
use Rattle.opl_reader.specs.declared.OplError.TheVariants.{Broken}
use Rattle.opl_reader.specs.Readings.{AreTexts, IsFieldsCause}
use Rattle.opl_reader.specs.FoundFields.{has, with_value, with_letter, with_field, letter_failure, field_failure, found_in}

-- Letters.

by_letter : (c : ℕ) (l letter : Letter) (rest : Option Letter) → (rest ≡ Some letter → c ≡ letter_byte letter) → cond (eqb c (letter_byte l)) (Some l) rest ≡ Some letter → c ≡ letter_byte letter
by_letter c l letter rest others e = one (eqb c (letter_byte l)) refl e
  where
    one : (b : Bool) → eqb c (letter_byte l) ≡ b → cond b (Some l) rest ≡ Some letter → c ≡ letter_byte letter
    one true is e = let same : l ≡ letter = cc in eqb-true c (letter_byte l) is ∙ ap letter_byte same
    one false is e = others e

common_byte : (c : ℕ) (letter : Letter) → common_letter_of c ≡ Some letter → c ≡ letter_byte letter
common_byte c letter e =
    by_letter c Version letter _
    (by_letter c State letter _ (by_letter c Change letter _ (by_letter c Time letter _ (by_letter c UserId letter _ (by_letter c UserName letter _ (by_letter c Tags letter _ (λ none. absurd (cc))))))))
    e

-- a letter is its byte
pub byte_is : (kind : Kind) (c : ℕ) (letter : Letter) → letter_of kind c ≡ Some letter → c ≡ letter_byte letter
unfolding letter_of
byte_is Node c letter e = by_letter c Lon letter _ (by_letter c Lat letter _ (common_byte c letter)) e
byte_is Way c letter e = by_letter c Refs letter _ (common_byte c letter) e
byte_is Relation c letter e = by_letter c Members letter _ (common_byte c letter) e

ascii_byte : (letter : Letter) → letter_byte letter < 128
ascii_byte Version = omega arith
ascii_byte State = omega arith
ascii_byte Change = omega arith
ascii_byte Time = omega arith
ascii_byte UserId = omega arith
ascii_byte UserName = omega arith
ascii_byte Tags = omega arith
ascii_byte Lon = omega arith
ascii_byte Lat = omega arith
ascii_byte Refs = omega arith
ascii_byte Members = omega arith

pub letter_ascii : (kind : Kind) (c : ℕ) (letter : Letter) → letter_of kind c ≡ Some letter → c < 128
letter_ascii kind c letter e = subst (λ (d : ℕ). d < 128) (sym (byte_is kind c letter e)) (ascii_byte letter)

-- Which letters were found.

-- whether the entry of a byte is set
abbrev look : List (ℕ × Bool) → ℕ → Bool
look [] d = false
look (e ∷ es) d = cond (eqb d e.0) e.1 (look es d)

abbrev has_entry : List (ℕ × Bool) → ℕ → Bool
has_entry [] c = false
has_entry (e ∷ es) c = cond (eqb c e.0) true (has_entry es c)

-- the same entries, and that of this byte set
abbrev put : ℕ → List (ℕ × Bool) → List (ℕ × Bool)
put c [] = []
put c (e ∷ es) = cond (eqb c e.0) ((e.0, true) ∷ es) (e ∷ put c es)

or_true : (b : Bool) → (b || true) ≡ true
or_true true = refl
or_true false = refl

or_false : (b : Bool) → (b || false) ≡ b
or_false true = refl
or_false false = refl

put_look : (c d : ℕ) (es : List (ℕ × Bool)) → has_entry es c ≡ true → look (put c es) d ≡ (look es d || eqb c d)
put_look c d [] none = absurd (cc)
put_look c d (e ∷ es) some = one (eqb c e.0) (eqb d e.0) (eqb c d) refl refl refl some (put_look c d es)
  where
    one : (a b s : Bool) → eqb c e.0 ≡ a → eqb d e.0 ≡ b → eqb c d ≡ s → cond a true (has_entry es c) ≡ true
        → (has_entry es c ≡ true → look (put c es) d ≡ (look es d || eqb c d))
        → look (cond a ((e.0, true) ∷ es) (e ∷ put c es)) d ≡ (cond b e.1 (look es d) || s)
    one true true true is other same h again = rw other (sym (or_true e.1))
    one true true false is other same h again =
        let x : c ≡ e.0 = eqb-true c e.0 is in
        let y : d ≡ e.0 = eqb-true d e.0 other in
        let z : eqb c e.0 ≡ false = ap (eqb c) (sym y) ∙ same in
        absurd (cc)
    one true false true is other same h again =
        let z : c ≡ d = eqb-true c d same in
        let w : eqb d e.0 ≡ true = ap (λ x. eqb x e.0) (sym z) ∙ is in
        absurd (cc)
    one true false false is other same h again = rw other (sym (or_false (look es d)))
    one false true true is other same h again =
        let z : c ≡ d = eqb-true c d same in
        let w : eqb c e.0 ≡ true = ap (λ x. eqb x e.0) z ∙ other in
        absurd (cc)
    one false true false is other same h again = rw other (sym (or_false e.1))
    one false false s is other same h again = rw other (again h ∙ ap (λ x. look es d || x) same)

-- which letters are found, by their bytes
abbrev table : Found → List (ℕ × Bool)
table found =
    (118, is_some found.version) ∷ (100, is_some found.gone) ∷ (99, found.change) ∷ (116, found.time) ∷ (105, found.user_id) ∷ (117, found.user_name)
    ∷ (84, is_some found.tags) ∷ (120, is_some found.lon) ∷ (121, is_some found.lat) ∷ (78, is_some found.refs) ∷ (77, is_some found.members) ∷ []

table_has : (letter : Letter) (found : Found) → look (table found) (letter_byte letter) ≡ has letter found
table_has Version found = refl
table_has State found = refl
table_has Change found = refl
table_has Time found = refl
table_has UserId found = refl
table_has UserName found = refl
table_has Tags found = refl
table_has Lon found = refl
table_has Lat found = refl
table_has Refs found = refl
table_has Members found = refl

in_table : (letter : Letter) (found : Found) → has_entry (table found) (letter_byte letter) ≡ true
in_table Version found = refl
in_table State found = refl
in_table Change found = refl
in_table Time found = refl
in_table UserId found = refl
in_table UserName found = refl
in_table Tags found = refl
in_table Lon found = refl
in_table Lat found = refl
in_table Refs found = refl
in_table Members found = refl

some_map : {A B : Type 0} (f : A → B) (o : Option A) → is_some (option_map f o) ≡ is_some o
some_map f None = refl
some_map f (Some x) = refl

first_true : (a b : Bool) → (a && b) ≡ true → a ≡ true
first_true true b e = refl
first_true false b e = absurd (cc)

second_true : (a b : Bool) → (a && b) ≡ true → b ≡ true
second_true true b e = e
second_true false b e = absurd (cc)

-- a value of its letter has what is kept of it
tags_there : (value : List ℕ) → is_value Tags value ≡ true → is_some (option_map tags_from (pairs_of value)) ≡ true
tags_there value e =
    some_map tags_from (pairs_of value) ∙ first_true (is_some (pairs_of value)) (is_few value) (second_true (is_some (unescaped value)) (is_some (pairs_of value) && is_few value) e)

refs_there : (value : List ℕ) → is_value Refs value ≡ true → is_some (refs_of value) ≡ true
refs_there value e = first_true (is_some (refs_of value)) (is_few value) e

members_there : (value : List ℕ) → is_value Members value ≡ true → is_some (members_of value) ≡ true
members_there value e = first_true (is_some (members_of value)) (is_few value) (second_true (is_some (unescaped value)) (is_some (members_of value) && is_few value) e)

table_more : (letter : Letter) (value : List ℕ) (found : Found) → is_value letter value ≡ true → table (with_value letter value found) ≡ put (letter_byte letter) (table found)
table_more Version value found e = ap (λ b. take 0 (table found) ++ (118, b) ∷ drop 1 (table found)) (e)
table_more State value found e = ap (λ b. take 1 (table found) ++ (100, b) ∷ drop 2 (table found)) (e)
table_more Change value found e = refl
table_more Time value found e = refl
table_more UserId value found e = refl
table_more UserName value found e = refl
table_more Tags value found e = ap (λ b. take 6 (table found) ++ (84, b) ∷ drop 7 (table found)) (tags_there value e)
table_more Lon value found e = ap (λ b. take 7 (table found) ++ (120, b) ∷ drop 8 (table found)) (e)
table_more Lat value found e = ap (λ b. take 8 (table found) ++ (121, b) ∷ drop 9 (table found)) (e)
table_more Refs value found e = ap (λ b. take 9 (table found) ++ (78, b) ∷ drop 10 (table found)) (refs_there value e)
table_more Members value found e = ap (λ b. take 10 (table found) ++ (77, b) ∷ drop 11 (table found)) (members_there value e)

-- the letters before are those that are found
abbrev pub Matches : List ℕ → Found → Type 0
Matches before found = (d : ℕ) → comes_in before d ≡ look (table found) d

matches_more : (letter : Letter) (value before : List ℕ) (found : Found) (c : ℕ) → c ≡ letter_byte letter → is_value letter value ≡ true
    → Matches before found → Matches (before ++ c ∷ []) (with_value letter value found)
matches_more letter value before found c is good m d =
    list_any-append (λ x. eqb x d) before (c ∷ [])
    ∙ ap (λ b. comes_in before d || b) (or_false (eqb c d))
    ∙ ap (λ b. b || eqb c d) (m d)
    ∙ ap (λ x. look (table found) d || eqb x d) is
    ∙ sym (put_look (letter_byte letter) d (table found) (in_table letter found))
    ∙ sym (ap (λ t. look t d) (table_more letter value found good))

none_before : Matches [] (found_in [])
none_before d = one (eqb d 118) (eqb d 100) (eqb d 99) (eqb d 116) (eqb d 105) (eqb d 117) (eqb d 84) (eqb d 120) (eqb d 121) (eqb d 78) (eqb d 77)
  where
    same : (b x : Bool) → x ≡ false → cond b false x ≡ false
    same true x e = refl
    same false x e = e

    one : (a b c e f g h i j k l : Bool)
        → false ≡ cond a false (cond b false (cond c false (cond e false (cond f false (cond g false (cond h false (cond i false (cond j false (cond k false (cond l false false))))))))))
    one a b c e f g h i j k l =
        sym (same a _ (same b _ (same c _ (same e _ (same f _ (same g _ (same h _ (same i _ (same j _ (same k _ (same l false refl)))))))))))

-- The values.

-- what was found, and else what is found later
abbrev pub merged : Found → Found → Found
merged a b = record {
  version = option_or a.version b.version;
  gone = option_or a.gone b.gone;
  change = a.change || b.change;
  time = a.time || b.time;
  user_id = a.user_id || b.user_id;
  user_name = a.user_name || b.user_name;
  tags = option_or a.tags b.tags;
  lon = option_or a.lon b.lon;
  lat = option_or a.lat b.lat;
  refs = option_or a.refs b.refs;
  members = option_or a.members b.members;
}

or_none : {A : Type 0} (o : Option A) → option_or o None ≡ o
or_none None = refl
or_none (Some x) = refl

-- a value that is read where there was none
moved : {A : Type 0} (slot read later : Option A) → is_some slot ≡ false → is_some read ≡ true → option_or slot read ≡ option_or read later
moved None (Some x) later none some = refl
moved None None later none some = absurd (cc)
moved (Some x) read later none some = absurd (cc)

abbrev of : Option ℕ → Option Bool → Bool → Bool → Bool → Bool → Option (List Tag) → Option (Option ℤ) → Option (Option ℤ) → Option (List ℤ) → Option (List Member) → Found
of v d c t i u tags x y refs members = record {
  version = v;
  gone = d;
  change = c;
  time = t;
  user_id = i;
  user_name = u;
  tags = tags;
  lon = x;
  lat = y;
  refs = refs;
  members = members;
}

merged_none : (a : Found) → merged a (found_in []) ≡ a
merged_none a =
    let v = or_none a.version in
    let d = or_none a.gone in
    let c = or_false a.change in
    let t = or_false a.time in
    let i = or_false a.user_id in
    let u = or_false a.user_name in
    let tags = or_none a.tags in
    let x = or_none a.lon in
    let y = or_none a.lat in
    let refs = or_none a.refs in
    let members = or_none a.members in
    same v d c t i u tags x y refs members
  where
    same : {v v' : Option ℕ} {d d' : Option Bool} {c c' t t' i i' u u' : Bool} {tags tags' : Option (List Tag)} {x x' y y' : Option (Option ℤ)} {refs refs' : Option (List ℤ)} {members members' : Option (List Member)}
        → v ≡ v' → d ≡ d' → c ≡ c' → t ≡ t' → i ≡ i' → u ≡ u' → tags ≡ tags' → x ≡ x' → y ≡ y' → refs ≡ refs' → members ≡ members'
        → of v d c t i u tags x y refs members ≡ of v' d' c' t' i' u' tags' x' y' refs' members'
    same v d c t i u tags x y refs members = cc

-- a value of a letter that was not found before
merged_more : (letter : Letter) (value : List ℕ) (found later : Found) → has letter found ≡ false → is_value letter value ≡ true
    → merged found (with_value letter value later) ≡ merged (with_value letter value found) later
merged_more Version value found later none e = ap (λ x. record (merged found later) { version = x }) (moved found.version (version_of value) later.version none (e))
merged_more State value found later none e = ap (λ x. record (merged found later) { gone = x }) (moved found.gone (gone_of value) later.gone none (e))
merged_more Change value found later none e = ap (λ x. record (merged found later) { change = x }) (or_true found.change)
merged_more Time value found later none e = ap (λ x. record (merged found later) { time = x }) (or_true found.time)
merged_more UserId value found later none e = ap (λ x. record (merged found later) { user_id = x }) (or_true found.user_id)
merged_more UserName value found later none e = ap (λ x. record (merged found later) { user_name = x }) (or_true found.user_name)
merged_more Tags value found later none e = ap (λ x. record (merged found later) { tags = x }) (moved found.tags (option_map tags_from (pairs_of value)) later.tags none (tags_there value e))
merged_more Lon value found later none e = ap (λ x. record (merged found later) { lon = x }) (moved found.lon (longitude_of value) later.lon none (e))
merged_more Lat value found later none e = ap (λ x. record (merged found later) { lat = x }) (moved found.lat (latitude_of value) later.lat none (e))
merged_more Refs value found later none e = ap (λ x. record (merged found later) { refs = x }) (moved found.refs (refs_of value) later.refs none (refs_there value e))
merged_more Members value found later none e = ap (λ x. record (merged found later) { members = x }) (moved found.members (members_of value) later.members none (members_there value e))

-- the first of the fields spells the value of its letter
first_found : (letter : Letter) (f : ℕ × List ℕ) (fs : List (ℕ × List ℕ)) → first_of f.1 ≡ letter_byte letter → found_in (f ∷ fs) ≡ with_value letter (drop 1 f.1) (found_in fs)
first_found Version f fs c = rw c refl
first_found State f fs c = rw c refl
first_found Change f fs c = rw c refl
first_found Time f fs c = rw c refl
first_found UserId f fs c = rw c refl
first_found UserName f fs c = rw c refl
first_found Tags f fs c = rw c refl
first_found Lon f fs c = rw c refl
first_found Lat f fs c = rw c refl
first_found Refs f fs c = rw c refl
first_found Members f fs c = rw c refl

-- The fields in turn.

-- what is known of all fields where these are left
pub record Goes (kind : Kind) (found : Found) (rest all : List (ℕ × List ℕ)) : Type 0 where
  before : List ℕ
  matches : Matches before found
  failure : failure_in (fields_tests kind before rest) ≡ failure_in (fields_tests kind [] all)
  values : merged found (found_in rest) ≡ found_in all
  texts : AreTexts rest

pub begins : (kind : Kind) (all : List (ℕ × List ℕ)) (found : Found) → found ≡ found_in [] → AreTexts all → Goes kind found all all
begins kind all found is texts = subst (λ (x : Found). Goes kind x all all) (sym is) (record { before = []; matches = none_before; failure = refl; values = refl; texts = texts })

-- how a field breaks, by what was found before
failure_is : (kind : Kind) (before field : List ℕ) (found : Found) → Matches before found → failure_kind (field_tests kind before field) ≡ field_failure kind field found
failure_is kind before field found m = one (letter_of kind (first_of field)) refl
  where
    two : (b : Bool) (o : Option OplKind) → cond (not b) o (Some Twice) ≡ cond b (Some Twice) o
    two true o = refl
    two false o = refl

    one : (o : Option Letter) → letter_of kind (first_of field) ≡ o
        → cond (is_some o) (cond (not (comes_in before (first_of field))) (failure_kind (letter_tests o (drop 1 field))) (Some Twice)) (Some BadField) ≡ letter_failure o (drop 1 field) found
    one None is = refl
    one (Some letter) is =
        let came : comes_in before (first_of field) ≡ has letter found = m (first_of field) ∙ ap (look (table found)) (byte_is kind (first_of field) letter is) ∙ table_has letter found in
        ap (λ b. cond (not b) (failure_kind (value_tests letter (drop 1 field))) (Some Twice)) came ∙ two (has letter found) (failure_kind (value_tests letter (drop 1 field)))

-- the first field that is left breaks, or the others do
pub breaks : (kind : Kind) (found : Found) (f : ℕ × List ℕ) (rest all left : List (ℕ × List ℕ)) (broken : OplKind) → Goes kind found left all → left ≡ f ∷ rest
    → field_failure kind f.1 found ≡ Some broken → failure_in (fields_tests kind [] all) ≡ Some (f.0, broken)
breaks kind found f rest all left broken g is fails =
    sym g.failure
    ∙ ap (λ fs. failure_in (fields_tests kind g.before fs)) is
    ∙ field_step kind g.before f rest
    ∙ ap (λ o. option_or (option_map (λ k. (f.0, k)) o) (failure_in (fields_tests kind (g.before ++ first_of f.1 ∷ []) rest))) (failure_is kind g.before f.1 found g.matches ∙ fails)

-- one field more is good
pub goes_on : (kind : Kind) (found new : Found) (f : ℕ × List ℕ) (rest all left : List (ℕ × List ℕ)) → Goes kind found left all → left ≡ f ∷ rest
    → field_failure kind f.1 found ≡ None → new ≡ with_field kind f.1 found → Goes kind new rest all
goes_on kind found new f rest all left g is good n = two (subst (λ fs. Goes kind found fs all) is g)
  where
    three : (h : Bool) (o : Option OplKind) → cond h (Some Twice) o ≡ None → h ≡ false
    three true o e = absurd (cc)
    three false o e = refl

    value : (h : Bool) (o : Option OplKind) → cond h (Some Twice) o ≡ None → o ≡ None
    value true o e = absurd (cc)
    value false o e = e

    one : (h : Goes kind found (f ∷ rest) all) (o : Option Letter) → letter_of kind (first_of f.1) ≡ o → letter_failure o (drop 1 f.1) found ≡ None → new ≡ with_letter o (drop 1 f.1) found → Goes kind new rest all
    one h None l good n = absurd (cc)
    one h (Some letter) l good n =
        let byte : first_of f.1 ≡ letter_byte letter = byte_is kind (first_of f.1) letter l in
        let none : has letter found ≡ false = three (has letter found) (failure_kind (value_tests letter (drop 1 f.1))) good in
        let is_good : is_value letter (drop 1 f.1) ≡ true = good_value letter (drop 1 f.1) (value (has letter found) (failure_kind (value_tests letter (drop 1 f.1))) good) in
        let goes : Goes kind (with_value letter (drop 1 f.1) found) rest all = record {
          before = h.before ++ first_of f.1 ∷ [];
          matches = matches_more letter (drop 1 f.1) h.before found (first_of f.1) byte is_good h.matches;
          failure =
              sym
              (field_step kind h.before f rest
              ∙ ap (λ o. option_or (option_map (λ k. (f.0, k)) o) (failure_in (fields_tests kind (h.before ++ first_of f.1 ∷ []) rest)))
              (failure_is kind h.before f.1 found h.matches ∙ ap (λ x. letter_failure x (drop 1 f.1) found) l ∙ good))
              ∙ h.failure;
          values = sym (merged_more letter (drop 1 f.1) found (found_in rest) none is_good) ∙ sym (ap (merged found) (first_found letter f rest byte)) ∙ h.values;
          texts = h.texts.1;
        } in
        subst (λ (x : Found). Goes kind x rest all) (sym n) goes

    two : Goes kind found (f ∷ rest) all → Goes kind new rest all
    two h = one h (letter_of kind (first_of f.1)) refl good n

-- the first field that is left is UTF-8
pub first_text : (kind : Kind) (found : Found) (f : ℕ × List ℕ) (rest all left : List (ℕ × List ℕ)) → Goes kind found left all → left ≡ f ∷ rest → IsTrue (is_utf8 f.1)
first_text kind found f rest all left g is = let texts : AreTexts (f ∷ rest) = subst AreTexts is g.texts in texts.0

-- no field is left
pub all_good : (kind : Kind) (found : Found) (all left : List (ℕ × List ℕ)) → Goes kind found left all → left ≡ [] → failure_in (fields_tests kind [] all) ≡ None
all_good kind found all left g is = sym g.failure ∙ ap (λ fs. failure_in (fields_tests kind g.before fs)) is

pub all_found : (kind : Kind) (found : Found) (all left : List (ℕ × List ℕ)) → Goes kind found left all → left ≡ [] → found ≡ found_in all
all_found kind found all left g is = sym (merged_none found) ∙ sym (ap (λ fs. merged found (found_in fs)) is) ∙ g.values

-- Breaks of one field.

pub no_letter : (kind : Kind) (field : List ℕ) (found : Found) → length field ≡ 0 → field_failure kind field found ≡ Some BadField
unfolding letter_of
no_letter Node [] found e = refl
no_letter Way [] found e = refl
no_letter Relation [] found e = refl
no_letter kind (c ∷ cs) found e = absurd (omega arith)

pub fields_cause : (kind : Kind) (fs : List (ℕ × List ℕ)) (end at : ℕ) (broken : OplKind) (e : OplError) → e ≡ Broken (record { at = at; kind = broken })
    → failure_in (fields_tests kind [] fs) ≡ Some (at, broken) → at ≤ end → IsFieldsCause kind fs end e
fields_cause kind fs end at broken e is fails near = subst (IsFieldsCause kind fs end) (sym is) (fails, near)
