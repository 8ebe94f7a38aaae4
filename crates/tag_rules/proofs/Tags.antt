-- The first rule that matches, tag by tag.
use Rattle.std.proofs.Common.{◌≡◌, ◌≢◌, ℕ, ◌+◌, zero, suc, List, [], ◌∷◌, ◌++◌, slice_get, true, false, Bool, ◌&&◌, ◌||◌, Option, Some, None, refl, sym, ap, ◌∙◌, arith, bytes_eq}
use Rattle.std.specs.Prelude.{IsUtf8, IfSome}
use Rattle.std.specs.List.{AllByRecursion, list_any, range_with_len}
use Rattle.std.proofs.lemmas.List.{map-id}
use Rattle.std.proofs.lemmas.List.FromFn.{map-range_with_len_more}
use Rattle.std.proofs.lemmas.Slice.Eq.{bytes_eq-Decides}
use Rattle.live_model.specs.declared.objects.Tag.{Tag}
use Rattle.live_model.specs.declared.shapes.Shape.{Shape}
use Rattle.live_model.specs.declared.rules.Rule.{Rule}
use Rattle.live_model.specs.Rules.{IsRule, shape_rank, same_shape, admits, admits_tag, matches}
use Rattle.tag_rules.specs.Matching.{first_from, matching_from, earlier}
use Rattle.tag_rules.specs.Order.{Want, wants, bytes_or_none}
use Rattle.tag_rules.proofs.Firsts.{passes_at, passes_here, one_first, first_is, first_same, first_either}

-- one more place
pub range_more : (n : ℕ) → range_with_len 0 (n + 1) ≡ range_with_len 0 n ++ n ∷ []
range_more n = sym (map-id (range_with_len 0 (n + 1))) ∙ map-range_with_len_more (λ x. x) 0 n n (omega arith) ∙ ap (λ xs. xs ++ n ∷ []) (map-id (range_with_len 0 n))

-- The first by either test is the earlier of the first by each.

pub either_from : (p q s : Rule → Bool) (rules : List Rule) (from : ℕ) → AllByRecursion (λ r. (p r || q r) ≡ s r) rules → earlier (first_from p rules from) (first_from q rules from) ≡ first_from s rules from
either_from p q s rules from same =
    one_first (passes_at s rules) from (earlier (first_from p rules from) (first_from q rules from)) (first_from s rules from)
    (first_same (λ i. passes_at p rules i || passes_at q rules i) (passes_at s rules) from (earlier (first_from p rules from) (first_from q rules from)) (λ i. at rules i same)
    (first_either (passes_at p rules) (passes_at q rules) from (first_from p rules from) (first_from q rules from) (first_is p rules from) (first_is q rules from)))
    (first_is s rules from)
  where
    at : (rs : List Rule) (i : ℕ) → AllByRecursion (λ r. (p r || q r) ≡ s r) rs → (passes_here p (slice_get rs i) || passes_here q (slice_get rs i)) ≡ passes_here s (slice_get rs i)
    at [] i all = refl
    at (r ∷ rs) zero all = all.0
    at (r ∷ rs) (suc i) all = at rs i all.1

-- of no tags
pub none_from : (rules : List Rule) (s : Shape) (from : ℕ) → matching_from rules s [] from ≡ None
none_from rules s from =
    one_first (passes_at (λ r. matches r s []) rules) from (matching_from rules s [] from) None (first_is (λ r. matches r s []) rules from) (λ q le. one (slice_get rules q))
  where
    never : (b : Bool) → (b && false) ≡ false
    never true = refl
    never false = refl

    one : (o : Option Rule) → passes_here (λ r. matches r s []) o ≡ false
    one None = refl
    one (Some r) = never (same_shape r.shape s)

any_append : (p : Tag → Bool) (xs : List Tag) (t : Tag) → list_any p (xs ++ t ∷ []) ≡ (list_any p xs || list_any p (t ∷ []))
any_append p [] t = refl
any_append p (x ∷ xs) t = one (p x) (any_append p xs t)
  where
    one : (b : Bool) → list_any p (xs ++ t ∷ []) ≡ (list_any p xs || list_any p (t ∷ [])) → (b || list_any p (xs ++ t ∷ [])) ≡ ((b || list_any p xs) || list_any p (t ∷ []))
    one true again = refl
    one false again = again

all_rules : (P : Rule → Type 0) → ((r : Rule) → P r) → (rs : List Rule) → AllByRecursion P rs
all_rules P each [] = tt
all_rules P each (r ∷ rs) = (each r, all_rules P each rs)

all_good : (P : Rule → Type 0) → ((r : Rule) → IsRule r → P r) → (rs : List Rule) → AllByRecursion IsRule rs → AllByRecursion P rs
all_good P each [] good = tt
all_good P each (r ∷ rs) good = (each r good.0, all_good P each rs good.1)

-- of one tag more
pub more_from : (rules : List Rule) (s : Shape) (xs : List Tag) (t : Tag) (from : ℕ) → earlier (matching_from rules s xs from) (matching_from rules s (t ∷ []) from) ≡ matching_from rules s (xs ++ t ∷ []) from
more_from rules s xs t from =
    either_from (λ r. matches r s xs) (λ r. matches r s (t ∷ [])) (λ r. matches r s (xs ++ t ∷ [])) rules from
    (all_rules (λ r. (matches r s xs || matches r s (t ∷ [])) ≡ matches r s (xs ++ t ∷ [])) (λ r. two (same_shape r.shape s) (list_any (admits_tag r) xs) (list_any (admits_tag r) (t ∷ [])) _ (any_append (admits_tag r) xs t)) rules)
  where
    two : (b x y z : Bool) → z ≡ (x || y) → ((b && x) || (b && y)) ≡ (b && z)
    two true x y z e = sym e
    two false x y z e = refl

-- A tag alone: the rules of its key that want any value, and those that want just its value.

bytes_turned : (xs ys : List ℕ) → bytes_eq xs ys ≡ bytes_eq ys xs
bytes_turned xs ys = one (bytes_eq xs ys) (bytes_eq ys xs) refl refl
  where
    one : (a b : Bool) → bytes_eq xs ys ≡ a → bytes_eq ys xs ≡ b → a ≡ b
    one true true e f = refl
    one false false e f = refl
    one true false e f = let turned : bytes_eq ys xs ≡ true = (bytes_eq-Decides ys xs).1 (sym ((bytes_eq-Decides xs ys).0 e)) in sym turned ∙ f
    one false true e f = let turned : bytes_eq xs ys ≡ true = (bytes_eq-Decides xs ys).1 (sym ((bytes_eq-Decides ys xs).0 f)) in sym e ∙ turned

admitted_by : (value : Option (List ℕ)) (text : List ℕ) → IfSome value (λ v. IsUtf8 v × (v ≢ [])) → (bytes_eq (bytes_or_none value) [] || bytes_eq (bytes_or_none value) text) ≡ admits value text
admitted_by None text good = refl
admitted_by (Some []) text good = absurd (good.1 refl)
admitted_by (Some (c ∷ cs)) text good = refl

abbrev pub wanted_by : Shape → List ℕ → List ℕ → Want
wanted_by s key value = record { shape = shape_rank s; tag_key = key; tag_value = value }

pub tag_from : (rules : List Rule) (s : Shape) (t : Tag) (from : ℕ) → AllByRecursion IsRule rules
    → earlier (first_from (wants (wanted_by s t.key [])) rules from) (first_from (wants (wanted_by s t.key t.value)) rules from) ≡ matching_from rules s (t ∷ []) from
tag_from rules s t from good =
    either_from (wants (wanted_by s t.key [])) (wants (wanted_by s t.key t.value)) (λ r. matches r s (t ∷ [])) rules from
    (all_good (λ r. (wants (wanted_by s t.key []) r || wants (wanted_by s t.key t.value) r) ≡ matches r s (t ∷ []))
    (λ r is. two (same_shape r.shape s) (bytes_eq r.key t.key) (bytes_eq t.key r.key) _ _ _ (bytes_turned r.key t.key) (admitted_by r.value t.value is.value)) rules good)
  where
    last : (b : Bool) → b ≡ (b || false)
    last true = refl
    last false = refl

    two : (b y k x z d : Bool) → y ≡ k → (x || z) ≡ d → ((b && (y && x)) || (b && (y && z))) ≡ (b && ((k && d) || false))
    two true true k x z d e f = f ∙ last d ∙ ap (λ w. (w && d) || false) e
    two true false k x z d e f = ap (λ w. (w && d) || false) e
    two false y k x z d e f = refl
