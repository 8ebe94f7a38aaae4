-- A rule line spells a rule exactly where none of its tests fails, and a text spells rules exactly where it has no break.
use Rattle.std.proofs.Common.{◌≡◌, ℕ, ◌+◌, ◌≤◌, List, [], ◌∷◌, Bool, true, false, cond, not, length, Option, Some, None, refl, ap, arith, nat_le}
use Rattle.std.specs.Prelude.{is_some, is_none, find}
use Rattle.std.specs.Option.{option_map, option_or, option_and_then}
use Rattle.std.specs.Str.{is_utf8}
use Rattle.std.proofs.lemmas.Bool.{leb-false, lt-leb}
use Rattle.text_pieces.specs.Escapes.{text_of}
use Rattle.live_model.specs.declared.shapes.Shape.{Shape}
use Rattle.live_model.specs.declared.classes.Class.{Class}
use Rattle.live_model.specs.declared.rules.Rule.{Rule}
use Rattle.live_model.specs.declared.rules.RuleKind.{RuleKind}
use Rattle.live_model.specs.declared.rules.RuleKind.TheVariants.{NotUtf8, FieldCount, BadShape, BadEscape, BadZoom, BadClass, OverLimit}
use Rattle.live_model.specs.FieldValues.{prepended}
use Rattle.live_model.specs.Rules.{RuleFields, RuleTest, RuleText, rule_test, place_and_kind, rule_fields, field_tests, rule_from, rule_in, rule_of, rule_tests, rule_break, shape_of, admitted_of, zoom_of, class_of, rule_lines, spelled_rules, break_at, break_from, rules_break}

abbrev first_failure : List RuleTest → Option (ℕ × RuleKind)
first_failure ts = option_map place_and_kind (find (λ t. not t.passes) ts)

fields_law : (f : RuleFields) → is_none (first_failure (field_tests (Some f))) ≡ is_some (rule_in f)
fields_law f = one (shape_of f.shape.1) (text_of f.key.1) (admitted_of f.value.1) (zoom_of f.zoom.1) (class_of f.shape.1 f.class.1)
  where
    one : (s : Option Shape) (k : Option (List ℕ)) (v : Option (Option (List ℕ))) (z : Option ℕ) (c : Option Class)
        → is_none (first_failure (rule_test f.shape.0 BadShape (is_some s) ∷ rule_test f.key.0 BadEscape (is_some k) ∷ rule_test f.value.0 BadEscape (is_some v)
        ∷ rule_test f.zoom.0 BadZoom (is_some z) ∷ rule_test f.class.0 BadClass (is_some c) ∷ [])) ≡ is_some (rule_from s k v z c)
    one None k v z c = refl
    one (Some s) None v z c = refl
    one (Some s) (Some k) None z c = refl
    one (Some s) (Some k) (Some v) None c = refl
    one (Some s) (Some k) (Some v) (Some z) None = refl
    one (Some s) (Some k) (Some v) (Some z) (Some c) = refl

-- A line has no break exactly where it spells a rule.
pub break_law : (row : List ℕ) → is_none (rule_break row) ≡ is_some (rule_of row)
unfolding rule_break rule_tests rule_of
break_law row = one (is_utf8 row) (rule_fields row)
  where
    one : (utf8 : Bool) (f : Option RuleFields)
        → is_none (first_failure (rule_test 0 NotUtf8 utf8 ∷ rule_test 0 FieldCount (is_some f) ∷ field_tests f)) ≡ is_some (cond utf8 (option_and_then rule_in f) None)
    one false f = refl
    one true None = refl
    one true (Some f) = fields_law f

-- Texts.

-- two readings of one text are one
pub one_reading : (bytes : List ℕ) (a b : List Rule) → RuleText bytes a → RuleText bytes b → a ≡ b
one_reading bytes a b s t = let p = s.spelled in let q = t.spelled in cc

-- each line that is read has no break, and is not over the limit
no_break : (n : ℕ) (rs : List (ℕ × List ℕ)) (rules : List Rule) → spelled_rules rs ≡ Some rules → n + length rules ≤ 100000 → break_from n rs ≡ None
no_break n [] rules e few = refl
no_break n (r ∷ rs) rules e few = one (rule_of r.1) (spelled_rules rs) (rule_break r.1) (break_law r.1) refl e (no_break (n + 1) rs)
  where
    one : (l : Option Rule) (ls : Option (List Rule)) (b : Option (ℕ × RuleKind)) → is_none b ≡ is_some l → spelled_rules rs ≡ ls → prepended l ls ≡ Some rules
        → ((xs : List Rule) → spelled_rules rs ≡ Some xs → n + 1 + length xs ≤ 100000 → break_from (n + 1) rs ≡ None)
        → option_or (option_map (break_at r.0) (cond (nat_le 100000 n) (Some (0, OverLimit)) b)) (break_from (n + 1) rs) ≡ None
    one None ls b law rest e again = absurd (cc)
    one (Some x) None b law rest e again = absurd (cc)
    one (Some x) (Some xs) (Some y) law rest e again = absurd (cc)
    one (Some x) (Some xs) None law rest e again =
        let same : x ∷ xs ≡ rules = cc in
        let long : length (x ∷ xs) ≡ length rules = ap length same in
        rw (lt-leb 100000 n (omega arith)) (again xs rest (omega arith))

-- what is read has no break
pub read_has_none : (bytes : List ℕ) (rules : List Rule) → RuleText bytes rules → rules_break bytes ≡ None
unfolding rules_break
read_has_none bytes rules t = no_break 0 (rule_lines bytes) rules t.spelled (let few = t.within in omega arith)

-- where there is no break, rules are spelled
spelled : (n : ℕ) (rs : List (ℕ × List ℕ)) → n ≤ 100000 → break_from n rs ≡ None → (rules : List Rule) × (spelled_rules rs ≡ Some rules) × (n + length rules ≤ 100000)
spelled n [] few e = ([], refl, omega arith)
spelled n (r ∷ rs) few e = one (rule_of r.1) (rule_break r.1) (nat_le 100000 n) (break_law r.1) refl e (spelled (n + 1) rs)
  where
    one : (l : Option Rule) (b : Option (ℕ × RuleKind)) (over : Bool) → is_none b ≡ is_some l → nat_le 100000 n ≡ over
        → option_or (option_map (break_at r.0) (cond over (Some (0, OverLimit)) b)) (break_from (n + 1) rs) ≡ None
        → (n + 1 ≤ 100000 → break_from (n + 1) rs ≡ None → (rules : List Rule) × (spelled_rules rs ≡ Some rules) × (n + 1 + length rules ≤ 100000))
        → (rules : List Rule) × (prepended l (spelled_rules rs) ≡ Some rules) × (n + length rules ≤ 100000)
    one l b true law over e again = absurd (cc)
    one l (Some y) false law over e again = absurd (cc)
    one None None false law over e again = absurd (cc)
    one (Some x) None false law over e again =
        let below = leb-false 100000 n over in
        let rest = again (omega arith) e in
        let few = rest.2 in
        (x ∷ rest.0, ap (prepended (Some x)) rest.1, omega arith)

-- a text without a break spells rules
pub unbroken_is_read : (bytes : List ℕ) → rules_break bytes ≡ None → (rules : List Rule) × RuleText bytes rules
unfolding rules_break
unbroken_is_read bytes e =
    let all = spelled 0 (rule_lines bytes) (omega arith) e in
    (all.0, record { spelled = all.1; within = (let few = all.2 in omega arith) })
