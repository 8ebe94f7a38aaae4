-- The first rule at or after a place that passes a test.
use Rattle.std.proofs.Common.{◌≡◌, ◌<◌, ◌≤◌, ℕ, ◌+◌, zero, suc, List, [], ◌∷◌, length, get_or, slice_get, drop, true, false, cond, Bool, ◌||◌, Option, Some, None, refl, sym, ap, ◌∙◌, arith, inl, inr, ◌⊎◌, min}
use Rattle.std.specs.Prelude.{find}
use Rattle.std.specs.Option.{option_map}
use Rattle.std.specs.List.{enumerate_from}
use Rattle.std.proofs.lemmas.Bool.{cases_lt}
use Rattle.std.proofs.lemmas.List.{drop_more, drop_all}
use Rattle.std.proofs.lemmas.List.FromFn.{length-enumerate_from, get_or-enumerate_from}
use Rattle.std.proofs.lemmas.Option.{slice_get_within, get_or_from_slice_get, slice_get_past}
use Rattle.live_model.specs.declared.rules.Rule.{Rule}
use Rattle.tag_rules.specs.Matching.{first_from, earlier}

abbrev pub passes_here : (Rule → Bool) → Option Rule → Bool
passes_here passes None = false
passes_here passes (Some r) = passes r

-- the rule at a place passes
abbrev pub passes_at : (Rule → Bool) → List Rule → ℕ → Bool
passes_at passes rules place = passes_here passes (slice_get rules place)

-- the first place at or after `from` that passes; none where none does
abbrev pub IsFirst : (ℕ → Bool) → ℕ → Option ℕ → Type 0
IsFirst h from None = (q : ℕ) → from ≤ q → h q ≡ false
IsFirst h from (Some p) = (from ≤ p) × (h p ≡ true) × ((q : ℕ) → from ≤ q → q < p → h q ≡ false)

-- there is one first place
pub one_first : (h : ℕ → Bool) (from : ℕ) (a b : Option ℕ) → IsFirst h from a → IsFirst h from b → a ≡ b
one_first h from None None f g = refl
one_first h from None (Some q) f g = let no : h q ≡ false = f q g.0 in let yes : h q ≡ true = g.1 in absurd (let e : true ≡ false = sym yes ∙ no in cc)
one_first h from (Some p) None f g = let no : h p ≡ false = g p f.0 in let yes : h p ≡ true = f.1 in absurd (let e : true ≡ false = sym yes ∙ no in cc)
one_first h from (Some p) (Some q) f g =
    elim (cases_lt p q) [
      | inl lt ↦ let no : h p ≡ false = g.2 p f.0 lt in let yes : h p ≡ true = f.1 in absurd (let e : true ≡ false = sym yes ∙ no in cc)
      | inr le ↦ elim (cases_lt q p) [
        | inl lt ↦ let no : h q ≡ false = f.2 q g.0 lt in let yes : h q ≡ true = g.1 in absurd (let e : true ≡ false = sym yes ∙ no in cc)
        | inr ge ↦ let same : p ≡ q = omega arith in ap Some same
      ]
    ]

-- by a test with the same answers
pub first_same : (h g : ℕ → Bool) (from : ℕ) (o : Option ℕ) → ((q : ℕ) → h q ≡ g q) → IsFirst h from o → IsFirst g from o
first_same h g from None same f = λ q le. sym (same q) ∙ f q le
first_same h g from (Some p) same f = (f.0, sym (same p) ∙ f.1, λ q le lt. sym (same q) ∙ f.2 q le lt)

both_false : (a b : Bool) → a ≡ false → b ≡ false → (a || b) ≡ false
both_false a b e f = rw (e, f) refl

left_true : (a b : Bool) → a ≡ true → (a || b) ≡ true
left_true a b e = rw e refl

right_true : (a b : Bool) → b ≡ true → (a || b) ≡ true
right_true true b e = refl
right_true false b e = e

-- the earlier of two first places is the first by either test
pub first_either : (h g : ℕ → Bool) (from : ℕ) (a b : Option ℕ) → IsFirst h from a → IsFirst g from b → IsFirst (λ q. h q || g q) from (earlier a b)
first_either h g from None None f k = λ q le. both_false (h q) (g q) (f q le) (k q le)
first_either h g from None (Some p) f k = (k.0, right_true (h p) (g p) k.1, λ q le lt. both_false (h q) (g q) (f q le) (k.2 q le lt))
first_either h g from (Some p) None f k = (f.0, left_true (h p) (g p) f.1, λ q le lt. both_false (h q) (g q) (f.2 q le lt) (k q le))
first_either h g from (Some p) (Some r) f k =
    elim (cases_lt r p) [
      | inl lt ↦
          let same : min p r ≡ r = omega arith in
          rw same (k.0, right_true (h r) (g r) k.1, λ q le below. both_false (h q) (g q) (f.2 q le (omega arith)) (k.2 q le below))
      | inr ge ↦
          let same : min p r ≡ p = omega arith in
          rw same (f.0, left_true (h p) (g p) f.1, λ q le below. both_false (h q) (g q) (f.2 q le below) (k.2 q le (omega arith)))
    ]

-- The definition is the first place.

pub slice_get_some : {A : Type 0} (xs : List A) (i : ℕ) → i < length xs → slice_get xs i ≡ None → ⊥
slice_get_some [] i lt e = absurd (omega arith)
slice_get_some (x ∷ xs) zero lt e = cc
slice_get_some (x ∷ xs) (suc i) lt e = slice_get_some xs i (omega arith) e

module _ (passes : Rule → Bool) (rules : List Rule) where
  -- the places from a rule on
  places_here : (i : ℕ) (r : Rule) → slice_get rules i ≡ Some r → drop i (enumerate_from 0 rules) ≡ (i, r) ∷ drop (i + 1) (enumerate_from 0 rules)
  places_here i r here =
      let within : i < length rules = slice_get_within rules i r here in
      let long = length-enumerate_from 0 rules in
      let value : get_or rules i r ≡ r = get_or_from_slice_get rules i r r here in
      let same : 0 + i ≡ i = omega arith in
      drop_more (enumerate_from 0 rules) i (0, r) (omega arith)
      ∙ ap (λ p. p ∷ drop (i + 1) (enumerate_from 0 rules))
      (get_or-enumerate_from 0 rules i (0, r) within ∙ ap {B = ℕ × Rule} (λ k. (k, get_or rules i r)) same ∙ ap {B = ℕ × Rule} (λ x. (i, x)) value)

  after_pass : (i : ℕ) (r : Rule) (b : Bool) → slice_get rules i ≡ Some r → passes r ≡ b → first_from passes rules i ≡ cond b (Some i) (first_from passes rules (i + 1))
  after_pass i r b here is =
      ap (λ places. option_map (λ p. p.0) (find (λ p. passes p.1) places)) (places_here i r here)
      ∙ ap (λ t. option_map (λ (p : ℕ × Rule). p.0) (cond t (Some (i, r)) (find (λ p. passes p.1) (drop (i + 1) (enumerate_from 0 rules))))) is
      ∙ joined b
    where
      joined : (b : Bool) → option_map (λ (p : ℕ × Rule). p.0) (cond b (Some (i, r)) (find (λ p. passes p.1) (drop (i + 1) (enumerate_from 0 rules)))) ≡ cond b (Some i) (first_from passes rules (i + 1))
      joined true = refl
      joined false = refl

  never : (i : ℕ) → length rules ≤ i → first_from passes rules i ≡ None
  never i past =
      let long = length-enumerate_from 0 rules in
      ap (λ places. option_map (λ p. p.0) (find (λ p. passes p.1) places)) (drop_all i (enumerate_from 0 rules) (omega arith))

  none_past : (i : ℕ) → length rules ≤ i → IsFirst (passes_at passes rules) i (first_from passes rules i)
  none_past i past = rw (never i past) (λ q le. ap (passes_here passes) (slice_get_past rules q (omega arith)))

  later : (i : ℕ) (o : Option ℕ) → passes_at passes rules i ≡ false → IsFirst (passes_at passes rules) (i + 1) o → IsFirst (passes_at passes rules) i o
  later i None other f = λ q le. one q le (cases_lt i q)
    where
      one : (q : ℕ) → i ≤ q → (i < q) ⊎ (q ≤ i) → passes_at passes rules q ≡ false
      one q le (inl lt) = f q (omega arith)
      one q le (inr ge) = let same : i ≡ q = omega arith in ap (passes_at passes rules) (sym same) ∙ other
  later i (Some p) other f = (let far = f.0 in omega arith, f.1, λ q le below. one q le below (cases_lt i q))
    where
      one : (q : ℕ) → i ≤ q → q < p → (i < q) ⊎ (q ≤ i) → passes_at passes rules q ≡ false
      one q le below (inl lt) = f.2 q (omega arith) below
      one q le below (inr ge) = let same : i ≡ q = omega arith in ap (passes_at passes rules) (sym same) ∙ other

  step : (i : ℕ) (o : Option Rule) → slice_get rules i ≡ o → IsFirst (passes_at passes rules) (i + 1) (first_from passes rules (i + 1)) → IsFirst (passes_at passes rules) i (first_from passes rules i)
  step i None here next = none_past i (past (cases_lt i (length rules)))
    where
      past : (i < length rules) ⊎ (length rules ≤ i) → length rules ≤ i
      past (inl lt) = absurd (slice_get_some rules i lt here)
      past (inr ge) = ge
  step i (Some r) here next = two (passes r) refl
    where
      two : (b : Bool) → passes r ≡ b → IsFirst (passes_at passes rules) i (first_from passes rules i)
      two true is = rw (after_pass i r true here is) (omega arith, ap (passes_here passes) here ∙ is, λ q le below. absurd (omega arith))
      two false is = rw (after_pass i r false here is) (later i (first_from passes rules (i + 1)) (ap (passes_here passes) here ∙ is) next)

  by_length : (n i : ℕ) → length rules ≤ i + n → IsFirst (passes_at passes rules) i (first_from passes rules i)
  by_length zero i long = none_past i (omega arith)
  by_length (suc n) i long = step i (slice_get rules i) refl (by_length n (i + 1) (omega arith))

  pub first_is : (from : ℕ) → IsFirst (passes_at passes rules) from (first_from passes rules from)
  first_is from = by_length (length rules) from (omega arith)
