-- The canonical text of rules spells these rules.
use Rattle.std.proofs.Common.{◌≡◌, ◌≢◌, ℕ, ◌+◌, ◌-◌, ◌/◌, ◌%◌, ◌<◌, ◌≤◌, Bool, true, false, cond, ◌&&◌, List, [], ◌∷◌, ◌++◌, length, get_or, refl, sym, ap, ◌∙◌, arith, append_assoc, eqb, Option, Some, None, length-append, subst, bytes_eq, nat_le, nat_lt}
use Rattle.std.specs.Prelude.{codes, IsUtf8, IfSome}
use Rattle.std.specs.Option.{option_map}
use Rattle.std.specs.List.{AllByRecursion, list_all, position_or_len, flat_map}
use Rattle.std.specs.Str.{is_utf8}
use Rattle.std.specs.Str.Lines.{strip_carriage_return}
use Rattle.std.specs.Fmt.{decimal as printed}
use Rattle.std.specs.Cmp.Lexicographic.{same_text}
use Rattle.std.proofs.Math.Utf8.{encode}
use Rattle.std.proofs.lemmas.Bool.{ne_eqb, leb-true, ltb-true}
use Rattle.std.proofs.lemmas.Bool.Decides.{nat_tests}
use Rattle.std.proofs.lemmas.List.Concat.{flat_map-cons}
use Rattle.std.proofs.lemmas.List.Elements.{All-from_recursion, All-get_or}
use Rattle.std.proofs.lemmas.Str.{IsUtf8-append, is_utf8-from_IsUtf8}
use Rattle.text_pieces.specs.Lines.{lines_from, fields_from}
use Rattle.text_pieces.specs.Escapes.{character_of, unescaped, text_of, escaped, escaped_byte, needs_escape, hexadecimal_digit}
use Rattle.text_pieces.proofs.NumberLaw.{both_true, printed_is, number_of-printed}
use Rattle.text_pieces.proofs.EscapeLaw.{text_of-escaped}
use Rattle.text_pieces.proofs.LineSteps.{lines_first, lines_none}
use Rattle.live_model.specs.declared.shapes.Shape.{Shape}
use Rattle.live_model.specs.declared.shapes.Shape.TheVariants.{Point, Line, Area}
use Rattle.live_model.specs.declared.classes.Class.{Class}
use Rattle.live_model.specs.declared.classes.Class.TheVariants.{Map, Poi, Road, Place}
use Rattle.live_model.specs.declared.rules.Rule.{Rule}
use Rattle.live_model.specs.OplTexts.{is_skipped, object_lines_in}
use Rattle.live_model.specs.Rules.{RuleFields, five_from, rule_fields, shape_of, admitted_of, zoom_of, is_category_byte, poi_of, named_class, class_with, rule_of, spelled_rules, shape_text, admitted_text, class_text, rule_row, rule_line, rules_text, IsClass, IsRule, CanonicalRulesLaw}
use Rattle.live_model.proofs.CanonicalBytes.{IsPlain, IsNumeral, all_weaker, all_append, printed_numeral, escaped_plain, escaped_utf8, ascii_utf8}
use Rattle.live_model.proofs.CanonicalParts.{IsWord, spaced, fields_spaced, position_or_len_at, before_first_at, after_first_at}
use Rattle.live_model.proofs.CanonicalRows.{IsTextWord}
use Rattle.tag_rules.proofs.RowReadings.{good_row}

-- Words.

-- visible ASCII
abbrev is_visible : ℕ → Bool
is_visible c = nat_le 33 c && nat_lt c 128

ascii_word : (word : List ℕ) → 0 < length word → list_all is_visible word ≡ true → IsTextWord word
ascii_word word some all = record {
  word_is = record { some = some; visible = visible word all };
  utf8 = ascii_utf8 word (low word all);
}
  where
    visible : (bytes : List ℕ) → list_all is_visible bytes ≡ true → AllByRecursion (λ c. 33 ≤ c) bytes
    visible [] e = tt
    visible (c ∷ cs) e =
        let all = both_true (is_visible c) (list_all is_visible cs) e in
        let both = both_true (nat_le 33 c) (nat_lt c 128) all.0 in
        (leb-true 33 c both.0, visible cs all.1)

    low : (bytes : List ℕ) → list_all is_visible bytes ≡ true → AllByRecursion (λ c. c < 128) bytes
    low [] e = tt
    low (c ∷ cs) e =
        let all = both_true (is_visible c) (list_all is_visible cs) e in
        let both = both_true (nat_le 33 c) (nat_lt c 128) all.0 in
        (ltb-true c 128 both.1, low cs all.1)

shape_word : (s : Shape) → IsTextWord (shape_text s)
shape_word Point = ascii_word (codes "point") (omega arith) refl
shape_word Line = ascii_word (codes "line") (omega arith) refl
shape_word Area = ascii_word (codes "area") (omega arith) refl

escaped_some : (text : List ℕ) → text ≢ [] → 0 < length (escaped text)
unfolding escaped
escaped_some [] some = absurd (some refl)
escaped_some (c ∷ cs) some =
    let parts = ap length (flat_map-cons escaped_byte c cs) in
    let sum = length-append (escaped_byte c) (flat_map escaped_byte cs) in
    let first : 0 < length (escaped_byte c) = byte (needs_escape c) in
    omega arith
  where
    byte : (b : Bool) → 0 < length (cond b (37 ∷ hexadecimal_digit (c / 16) ∷ hexadecimal_digit (c % 16) ∷ 37 ∷ []) (c ∷ []))
    byte true = omega arith
    byte false = omega arith

escaped_word : (text : List ℕ) → IsUtf8 text → text ≢ [] → IsTextWord (escaped text)
escaped_word text utf8 some = record {
  word_is = record { some = escaped_some text some; visible = all_weaker IsPlain (λ c. 33 ≤ c) (λ c is. is.visible) (escaped text) (escaped_plain text) };
  utf8 = escaped_utf8 text utf8;
}

admitted_word : (value : Option (List ℕ)) → IfSome value (λ v. IsUtf8 v × (v ≢ [])) → IsTextWord (admitted_text value)
admitted_word None good = ascii_word (codes "*") (omega arith) refl
admitted_word (Some v) good = one (bytes_eq v (codes "*"))
  where
    one : (b : Bool) → IsTextWord (cond b (codes "%2a%") (escaped v))
    one true = ascii_word (codes "%2a%") (omega arith) refl
    one false = escaped_word v good.0 good.1

zoom_word : (z : ℕ) → z ≤ 22 → IsTextWord (printed z)
zoom_word z low =
    let digits = printed_numeral z (omega arith) in record {
      word_is = record { some = (printed_is z (omega arith)).some; visible = all_weaker IsNumeral (λ c. 33 ≤ c) (λ c is. let from = is.0 in omega arith) (printed z) digits };
      utf8 = ascii_utf8 (printed z) (all_weaker IsNumeral (λ c. c < 128) (λ c is. let to = is.1 in omega arith) (printed z) digits);
    }

category_visible : (bytes : List ℕ) → list_all is_category_byte bytes ≡ true → list_all is_visible bytes ≡ true
category_visible [] e = refl
category_visible (c ∷ cs) e =
    let all = both_true (is_category_byte c) (list_all is_category_byte cs) e in
    rw (byte c all.0, category_visible cs all.1) refl
  where
    byte : (c : ℕ) → is_category_byte c ≡ true → is_visible c ≡ true
    byte c e = grind (arith, nat_tests)

class_word : (s : Shape) (class : Class) → IsClass s class → IsTextWord (class_text class)
class_word s Map is = ascii_word (codes "map") (omega arith) refl
class_word s Road is = ascii_word (codes "road") (omega arith) refl
class_word s Place is = ascii_word (codes "place") (omega arith) refl
class_word s (Poi category) is =
    let all = category_visible category (both_true _ _ is).0 in
    ascii_word (codes "poi." ++ category) (omega arith) all

-- The line.

spaced_utf8 : (words : List (List ℕ)) → AllByRecursion IsTextWord words → IsUtf8 (spaced words)
spaced_utf8 [] all = ascii_utf8 [] tt
spaced_utf8 (word ∷ []) all = all.0.utf8
spaced_utf8 (word ∷ next ∷ words) all =
    IsUtf8-append word (32 ∷ spaced (next ∷ words)) all.0.utf8 (IsUtf8-append (32 ∷ []) (spaced (next ∷ words)) (ascii_utf8 (32 ∷ []) (omega arith, tt)) (spaced_utf8 (next ∷ words) all.1))

spaced_printable : (words : List (List ℕ)) → AllByRecursion IsTextWord words → AllByRecursion (λ c. 32 ≤ c) (spaced words)
spaced_printable [] all = tt
spaced_printable (word ∷ []) all = all_weaker (λ c. 33 ≤ c) (λ c. 32 ≤ c) (λ c is. omega arith) word all.0.word_is.visible
spaced_printable (word ∷ next ∷ words) all =
    all_append (λ c. 32 ≤ c) word (32 ∷ spaced (next ∷ words)) (all_weaker (λ c. 33 ≤ c) (λ c. 32 ≤ c) (λ c is. omega arith) word all.0.word_is.visible)
    (omega arith, spaced_printable (next ∷ words) all.1)

abbrev words_of : Rule → List (List ℕ)
words_of r = shape_text r.shape ∷ escaped r.key ∷ admitted_text r.value ∷ printed r.zoom ∷ class_text r.class ∷ []

words_are : (r : Rule) → IsRule r → AllByRecursion IsTextWord (words_of r)
words_are r is = (shape_word r.shape, (escaped_word r.key is.key.0 is.key.1, (admitted_word r.value is.value, (zoom_word r.zoom is.zoom, (class_word r.shape r.class is.class, tt)))))

five_spaced : (a b c d e : List ℕ) → a ++ 32 ∷ b ++ 32 ∷ c ++ 32 ∷ d ++ 32 ∷ e ≡ spaced (a ∷ b ∷ c ∷ d ∷ e ∷ [])
five_spaced a b c d e = simp append_assoc refl

row_spaced : (r : Rule) → rule_row r ≡ spaced (words_of r)
unfolding rule_row
row_spaced r = five_spaced (shape_text r.shape) (escaped r.key) (admitted_text r.value) (printed r.zoom) (class_text r.class)

row_printable : (r : Rule) → IsRule r → AllByRecursion (λ c. 32 ≤ c) (rule_row r)
row_printable r is = subst (AllByRecursion (λ c. 32 ≤ c)) (sym (row_spaced r)) (spaced_printable (words_of r) (words_are r is))

row_unskipped : (r : Rule) → is_skipped (rule_row r) ≡ false
row_unskipped r = ap is_skipped (row_spaced r) ∙ one r.shape (32 ∷ spaced (escaped r.key ∷ admitted_text r.value ∷ printed r.zoom ∷ class_text r.class ∷ []))
  where
    one : (s : Shape) (rest : List ℕ) → is_skipped (shape_text s ++ rest) ≡ false
    one Point rest = refl
    one Line rest = refl
    one Area rest = refl

-- The fields.

shape_back : (s : Shape) → shape_of (shape_text s) ≡ Some s
unfolding shape_of
shape_back Point = refl
shape_back Line = refl
shape_back Area = refl

star_back : (value : List ℕ) → escaped value ≡ codes "*" → value ≡ codes "*"
unfolding text_of unescaped
star_back value e =
    let spelled : text_of (codes "*") ≡ Some value = ap text_of (sym e) ∙ text_of-escaped value in
    let star : text_of (codes "*") ≡ Some (codes "*") = refl in
    let same : Some value ≡ Some (codes "*") = sym spelled ∙ star in
    cc

admitted_back : (value : Option (List ℕ)) → admitted_of (admitted_text value) ≡ Some value
unfolding admitted_of text_of unescaped character_of encode
admitted_back None = refl
admitted_back (Some v) = one (bytes_eq v (codes "*")) refl
  where
    other : (b : Bool) → bytes_eq (escaped v) (codes "*") ≡ b → bytes_eq v (codes "*") ≡ false → admitted_of (escaped v) ≡ Some (Some v)
    other true e f =
        let same : v ≡ codes "*" = star_back v (same_text (escaped v) (codes "*") (sym e)) in
        let g : bytes_eq (codes "*") (codes "*") ≡ false = subst (λ w. bytes_eq w (codes "*") ≡ false) same f in
        absurd (cc)
    other false e f = rw e (ap (option_map Some) (text_of-escaped v))

    one : (b : Bool) → bytes_eq v (codes "*") ≡ b → admitted_of (cond b (codes "%2a%") (escaped v)) ≡ Some (Some v)
    one true e = let same = same_text v (codes "*") (sym e) in ap (λ w. Some (Some w)) (sym same)
    one false e = other (bytes_eq (escaped v) (codes "*")) refl e

zoom_back : (z : ℕ) → z ≤ 22 → zoom_of (printed z) ≡ Some z
unfolding zoom_of
zoom_back z low = number_of-printed 2 22 z (omega arith) (omega arith) (omega arith) (omega arith)

class_back : (s : Shape) (class : Class) → IsClass s class → class_with (Some s) (named_class (class_text class)) ≡ Some class
unfolding named_class poi_of
class_back Point Map is = refl
class_back Line Map is = refl
class_back Area Map is = refl
class_back Point Place is = refl
class_back Line Place is = refl
class_back Area Place is = refl
class_back Line Road is = refl
class_back Point Road is = absurd (cc)
class_back Area Road is = absurd (cc)
class_back Point (Poi category) is = rw is refl
class_back Line (Poi category) is = rw is refl
class_back Area (Poi category) is = rw is refl

abbrev fields_of : Rule → RuleFields
fields_of r =
    let at1 = 0 + (length (shape_text r.shape) + 1) in
    let at2 = at1 + (length (escaped r.key) + 1) in
    let at3 = at2 + (length (admitted_text r.value) + 1) in
    let at4 = at3 + (length (printed r.zoom) + 1) in
    record { shape = (0, shape_text r.shape); key = (at1, escaped r.key); value = (at2, admitted_text r.value); zoom = (at3, printed r.zoom); class = (at4, class_text r.class) }

words_word : (words : List (List ℕ)) → AllByRecursion IsTextWord words → AllByRecursion IsWord words
words_word words all = all_weaker IsTextWord IsWord (λ w is. is.word_is) words all

fields_back : (r : Rule) → IsRule r → rule_fields (rule_row r) ≡ Some (fields_of r)
unfolding rule_fields
fields_back r is =
    ap (λ row. five_from (fields_from 0 row)) (row_spaced r)
    ∙ ap five_from (fields_spaced 0 (shape_text r.shape) (escaped r.key ∷ admitted_text r.value ∷ printed r.zoom ∷ class_text r.class ∷ []) (words_word (words_of r) (words_are r is)))

row_back : (r : Rule) → IsRule r → rule_of (rule_row r) ≡ Some r
row_back r is =
    let utf8 : is_utf8 (rule_row r) ≡ true = is_utf8-from_IsUtf8 (rule_row r) (subst IsUtf8 (sym (row_spaced r)) (spaced_utf8 (words_of r) (words_are r is))) in
    good_row (rule_row r) (fields_of r) utf8 (fields_back r is)
    ∙ rw (shape_back r.shape, text_of-escaped r.key, admitted_back r.value, zoom_back r.zoom is.zoom, class_back r.shape r.class is.class) refl

-- The text.

abbrev is_line_feed : ℕ → Bool
is_line_feed c = eqb c 10

-- a line without control bytes keeps its last byte
strip_kept : (row : List ℕ) → AllByRecursion (λ c. 32 ≤ c) row → strip_carriage_return row ≡ row
strip_kept [] all = refl
strip_kept (c ∷ cs) all =
    let last : 32 ≤ get_or (c ∷ cs) (length (c ∷ cs) - 1) 0 = All-get_or (λ b. 32 ≤ b) (c ∷ cs) (length (c ∷ cs) - 1) 0 (omega arith) (All-from_recursion (λ b. 32 ≤ b) (c ∷ cs) all) in
    rw (ne_eqb (get_or (c ∷ cs) (length (c ∷ cs) - 1) 0) 13 (λ e. omega arith)) refl

-- such a line, its line feed, and the lines behind it
line_step : (at : ℕ) (row rest : List ℕ) → AllByRecursion (λ c. 32 ≤ c) row → lines_from at (row ++ 10 ∷ rest) ≡ (at, row) ∷ lines_from (at + (length row + 1)) rest
line_step at row rest all =
    let none = all_weaker (λ c. 32 ≤ c) (λ c. is_line_feed c ≡ false) (λ c high. ne_eqb c 10 (λ e. omega arith)) row all in
    let place = position_or_len_at is_line_feed row rest 10 none refl in
    let within : position_or_len is_line_feed (row ++ 10 ∷ rest) < length (row ++ 10 ∷ rest) = omega (arith, place, length-append row (10 ∷ rest)) in
    lines_first at (row ++ 10 ∷ rest) within
    ∙ rw (before_first_at is_line_feed row rest 10 none refl, after_first_at is_line_feed row rest 10 none refl, place)
    (ap (λ line. (at, line) ∷ lines_from (at + (length row + 1)) rest) (strip_kept row all))

rule_step : (at : ℕ) (row : List ℕ) (rows : List (ℕ × List ℕ)) → is_skipped row ≡ false → object_lines_in ((at, row) ∷ rows) ≡ (at, row) ∷ object_lines_in rows
rule_step at row rows e = rw e refl

lines_back : (at : ℕ) (rs : List Rule) → AllByRecursion IsRule rs → spelled_rules (object_lines_in (lines_from at (rules_text rs))) ≡ Some rs
unfolding rule_line
lines_back at [] are = ap (λ rows. spelled_rules (object_lines_in rows)) (lines_none at [] refl)
lines_back at (r ∷ rs) are =
    ap (λ bytes. spelled_rules (object_lines_in (lines_from at bytes))) (flat_map-cons rule_line r rs ∙ append_assoc (rule_row r) (10 ∷ []) (rules_text rs))
    ∙ ap (λ rows. spelled_rules (object_lines_in rows)) (line_step at (rule_row r) (rules_text rs) (row_printable r are.0))
    ∙ ap spelled_rules (rule_step at (rule_row r) (lines_from (at + (length (rule_row r) + 1)) (rules_text rs)) (row_unskipped r))
    ∙ rw (row_back r are.0, lines_back (at + (length (rule_row r) + 1)) rs are.1) refl

-- The canonical text of rules spells these rules in their order.
pub text_back : CanonicalRulesLaw
text_back rules are few = record { spelled = lines_back 0 rules are; within = few }
