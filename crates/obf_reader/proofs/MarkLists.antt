-- Ordinals that differences lead to.
use Rattle.std.proofs.Common.{◌≡◌, ◌<◌, ◌≤◌, ◌^◌, ◌/◌, ◌%◌, ℕ, suc, ◌+◌, Bool, true, false, List, [], ◌∷◌, length, Some, Result, Ok, Err, refl, sym, ap, ◌∙◌, arith}
use Rattle.std.specs.Prelude.{◌&&◌, ◌||◌, not, IfOk, nat_lt, nat_le}
use Rattle.std.specs.List.{AllByRecursion, list_all}
use Rattle.std.specs.Ordering.{nat_cmp}
use Rattle.std.specs.declared.cmp.Ordering.TheVariants.{Less}
use Rattle.std.proofs.lemmas.Bool.{and_parts, leb-true, ltb-true, lt-ltb, le-ltb}
use Rattle.std.proofs.lemmas.Bool.Decides.{nat_tests}
use Rattle.ordered_lists.specs.Ordered.{IsRisingBy}
use Rattle.file_grammar.specs.BoxRules.{with_before, follows, is_ordinal}
use Rattle.file_grammar.specs.Files.{mark_rises, rise_strictly, sums_from}
use Rattle.obf_reader.specs.MarkLists.{rise_from}

-- an ordinal has few bits
pub ordinal_small : (n : ℕ) → is_ordinal n ≡ true → n < 2 ^ 52
ordinal_small n e =
    let p = and_parts (nat_le (n / 2 ^ 50) 2) (nat_le (n % 2 ^ 50) (2 ^ 49)) e in
    let q : n / 2 ^ 50 ≤ 2 = leb-true (n / 2 ^ 50) 2 p.0 in omega (arith, q)

pub first_small : (n : ℕ) (ns : List ℕ) → list_all is_ordinal (n ∷ ns) ≡ true → n < 2 ^ 52
first_small n ns e = ordinal_small n (and_parts (is_ordinal n) (list_all is_ordinal ns) e).0

pub others_all : (n : ℕ) (ns : List ℕ) → list_all is_ordinal (n ∷ ns) ≡ true → list_all is_ordinal ns ≡ true
others_all n ns e = (and_parts (is_ordinal n) (list_all is_ordinal ns) e).1

above : (b s : ℕ) → 0 < s → nat_lt b (b + s) ≡ true
above b s more = lt-ltb b (b + s) (omega arith)

-- a step up rises, and no step rises where the number is no ordinal
pub step_up : (b s : ℕ) → 0 < s → mark_rises b (b + s) ≡ true
step_up b s more = rw (above b s more) refl

same : (b : ℕ) → b + 0 ≡ b
same b = omega arith

stands : (b : ℕ) → nat_lt b b ≡ false
stands b = le-ltb b b (omega arith)

both : (o : Bool) → not (o && o) ≡ not o
both true = refl
both false = refl

pub step_none : (b : ℕ) → mark_rises b (b + 0) ≡ not (is_ordinal b)
step_none b = rw (same b, stands b) (both (is_ordinal b))

far_none : (n : ℕ) → 2 ^ 52 ≤ n → is_ordinal n ≡ false
far_none n far = elim (is_ordinal n) as (λ t. is_ordinal n ≡ t → t ≡ false) [
  | true ↦ λ e. absurd (let small = ordinal_small n e in omega (arith, small, far))
  | false ↦ λ e. refl
] refl

far_rises : (a b : ℕ) → is_ordinal b ≡ false → mark_rises a b ≡ true
far_rises a b e = rw e (last (nat_lt a b) (is_ordinal a))
  where
    last : (p o : Bool) → (p || not (o && false)) ≡ true
    last true o = refl
    last false true = refl
    last false false = refl

-- behind a number over all ordinals everything rises
pub rise_far : (before : ℕ) (steps : List ℕ) → 2 ^ 52 ≤ before → rise_from before steps ≡ true
rise_far before [] far = refl
rise_far before (s ∷ ss) far = rw (far_rises before (before + s) (far_none (before + s) (omega (arith, far)))) (rise_far (before + s) ss (omega (arith, far)))

pub length_sums : (before : ℕ) (steps : List ℕ) → length (sums_from before steps) ≡ length steps
length_sums before [] = refl
length_sums before (s ∷ ss) = ap suc (length_sums (before + s) ss)

-- ---- numbers that rise strictly

less : (a b : ℕ) → nat_lt a b ≡ true → nat_cmp a b ≡ Less
less a b e = let f : a < b = ltb-true a b e in grind (arith, nat_tests)

weaker : (a b : ℕ) (ns : List ℕ) → a ≤ b → AllByRecursion (λ n. nat_cmp b n ≡ Less) ns → AllByRecursion (λ n. nat_cmp a n ≡ Less) ns
weaker a b [] le all = tt
weaker a b (n ∷ ns) le all =
    let f : nat_lt b n ≡ true = let g : nat_cmp b n ≡ Less = all.0 in grind (arith, nat_tests) in
    let h : b < n = ltb-true b n f in
    (less a n (lt-ltb a n (omega arith)), weaker a b ns le all.1)

rises_less : (a b : ℕ) → is_ordinal a ≡ true → is_ordinal b ≡ true → mark_rises a b ≡ true → nat_lt a b ≡ true
rises_less a b x y e = only (nat_lt a b) (is_ordinal a) (is_ordinal b) x y e
  where
    only : (p o q : Bool) → o ≡ true → q ≡ true → (p || not (o && q)) ≡ true → p ≡ true
    only true o q x y e = refl
    only false true true x y e = absurd cc
    only false true false x y e = absurd cc
    only false false q x y e = absurd cc

all_above : (before : ℕ) (ns : List ℕ) → is_ordinal before ≡ true → list_all is_ordinal ns ≡ true → list_all (follows mark_rises) (with_before (Some before) ns) ≡ true
    → AllByRecursion (λ n. nat_cmp before n ≡ Less) ns × IsRisingBy nat_cmp (λ n. n) ns
all_above before [] x all e = (tt, tt)
all_above before (n ∷ ns) x all e =
    let p = and_parts (mark_rises before n) (list_all (follows mark_rises) (with_before (Some n) ns)) e in
    let o = and_parts (is_ordinal n) (list_all is_ordinal ns) all in
    let q = all_above n ns o.0 o.1 p.1 in
    let l = rises_less before n x o.0 p.0 in
    let lt : before < n = ltb-true before n l in
    ((less before n l, weaker before n ns (omega arith) q.0), q)

rising : (ns : List ℕ) → list_all is_ordinal ns ≡ true → rise_strictly ns ≡ true → IsRisingBy nat_cmp (λ n. n) ns
rising [] all e = tt
rising (n ∷ ns) all e = let o = and_parts (is_ordinal n) (list_all is_ordinal ns) all in all_above n ns o.0 o.1 e

-- what holds of an answer holds of it in other words
pub if_ok : {A E : Type 0} {P Q : A → Type 0} (r : Result A E) → ((x : A) → P x → Q x) → IfOk r P → IfOk r Q
if_ok (Ok x) f p = f x p
if_ok (Err e) f p = tt

pub rising_where : (good : Bool) (ns : List ℕ) → good ≡ (rise_strictly ns && list_all is_ordinal ns) → good ≡ true → IsRisingBy nat_cmp (λ n. n) ns
rising_where good ns is e = let p = and_parts (rise_strictly ns) (list_all is_ordinal ns) (sym is ∙ e) in rising ns p.1 p.0
