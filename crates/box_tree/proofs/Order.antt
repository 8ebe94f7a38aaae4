-- Keys in order stand in one order.
use Rattle.std.proofs.Common.{◌≡◌, ℕ, suc, ◌+◌, ◌<◌, Bool, true, false, cond, List, [], ◌∷◌, length, get_or, map, count_by, refl, sym, ap, subst, ◌∙◌, arith}
use Rattle.std.specs.List.{AllByRecursion}
use Rattle.std.specs.List.Sorted.{IsSorted}
use Rattle.std.specs.Ordering.{is_lt}
use Rattle.std.specs.Cmp.{IsTotalOrder, IsStrictWeakOrder}
use Rattle.std.proofs.lemmas.Cmp.{nat_cmp_total, on_total, then_total}
use Rattle.std.proofs.lemmas.Bool.Decides.{nat_tests}
use Rattle.std.proofs.lemmas.List.Sums.{sum_by-cons}
use Rattle.std.proofs.lemmas.List.Sorted.{ranks_by, sorted_far, sum_by-IsPermutation}
use Rattle.live_model.specs.declared.points.Rect.{Rect}
use Rattle.box_tree.specs.Packing.{Key, key_cmp, keys_of, IsPacking}

total : IsTotalOrder key_cmp
total = then_total (on_total (λ (k : Key). k.0) nat_cmp_total) (then_total (on_total (λ (k : Key). k.1) nat_cmp_total) (on_total (λ (k : Key). k.2) nat_cmp_total))

before : Key → Key → Bool
before a b = is_lt (key_cmp a b)

weak : IsStrictWeakOrder before
unfolding before
weak = ranks_by total (λ (k : Key). k)

-- keys of which neither comes before the other are one
one_key : (a b : Key) → before a b ≡ false → before b a ≡ false → a ≡ b
unfolding before
one_key a b p q =
    let first : a.0 ≡ b.0 = grind (arith, nat_tests) in
    let second : a.1 ≡ b.1 = grind (arith, nat_tests) in
    let third : a.2 ≡ b.2 = grind (arith, nat_tests) in
    ap (λ (n : ℕ). (n, a.1, a.2)) first ∙ ap (λ (n : ℕ). (b.0, n, a.2)) second ∙ ap (λ (n : ℕ). (b.0, b.1, n)) third

-- no later key comes before an earlier one
InOrder : List Key → Type 0
InOrder [] = Unit {0}
InOrder (k ∷ ks) = AllByRecursion (λ j. before j k ≡ false) ks × InOrder ks

all_from : (P : Key → Type 0) (ks : List Key) → ((i : ℕ) (d : Key) → i < length ks → P (get_or ks i d)) → AllByRecursion P ks
all_from P [] all = tt
all_from P (k ∷ ks) all = (all 0 k (omega arith), all_from P ks (λ i d lt. all (suc i) d (omega arith)))

in_order : (ks : List Key) → IsSorted key_cmp ks → InOrder ks
unfolding InOrder before
in_order [] sorted = tt
in_order (k ∷ ks) sorted = (
  all_from (λ j. is_lt (key_cmp j k) ≡ false) ks (λ i d lt. sorted_far (λ (a b : Key). is_lt (key_cmp a b)) weak (k ∷ ks) sorted 0 (suc i) d (omega arith) (omega arith)),
  in_order ks (λ i d low lt.
      let next : suc i + 1 ≡ suc (i + 1) = omega arith in
      let there = sorted (suc i) d (omega arith) (omega arith) in
      subst (λ (n : ℕ). is_lt (key_cmp (get_or (k ∷ ks) n d) (get_or ks i d)) ≡ false) next there),
)

module _ (p : Key → Bool) where
  counted : (k : Key) (ks : List Key) → count_by p (k ∷ ks) ≡ cond (p k) 1 0 + count_by p ks
  counted k ks = sum_by-cons (λ x. cond (p x) 1 0) k ks

  none_counted : (ks : List Key) → AllByRecursion (λ k. p k ≡ false) ks → count_by p ks ≡ 0
  none_counted [] none = refl
  none_counted (k ∷ ks) none =
      let one : ◌≡◌ {A = ℕ} (cond (p k) 1 0) 0 = ap (λ (b : Bool). cond b 1 0) none.0 in
      omega (arith, counted k ks, one, none_counted ks none.1)

  fails_first : (k : Key) (ks : List Key) → count_by p (k ∷ ks) ≡ 0 → p k ≡ false
  fails_first k ks none = first_fails (p k) (count_by p ks) (sym (counted k ks) ∙ none)
    where
      first_fails : (b : Bool) (n : ℕ) → cond b 1 0 + n ≡ 0 → b ≡ false
      first_fails true n e = absurd (omega arith)
      first_fails false n e = refl

-- each test is passed by as many of both
SameCounts : List Key → List Key → Type 0
SameCounts ks js = (p : Key → Bool) → count_by p ks ≡ count_by p js

itself : (k : Key) → before k k ≡ false
itself k = weak_itself (before k k) (weak.one_way k k)
  where
    weak_itself : (b : Bool) → (b ≡ true → b ≡ false) → b ≡ false
    weak_itself true h = h refl
    weak_itself false h = refl

one_order : (ks js : List Key) → InOrder ks → InOrder js → SameCounts ks js → ks ≡ js
unfolding InOrder SameCounts
one_order [] [] a b same = refl
one_order [] (j ∷ js) a b same =
    let all = same (λ _. true) in
    let one = counted (λ _. true) j js in
    absurd (omega arith)
one_order (k ∷ ks) [] a b same =
    let all = same (λ _. true) in
    let one = counted (λ _. true) k ks in
    absurd (omega arith)
one_order (k ∷ ks) (j ∷ js) a b same =
    let none_k = none_counted (λ x. before x k) (k ∷ ks) (itself k, a.0) in
    let none_j = none_counted (λ x. before x j) (j ∷ js) (itself j, b.0) in
    let first : before j k ≡ false = fails_first (λ x. before x k) j js (sym (same (λ x. before x k)) ∙ none_k) in
    let second : before k j ≡ false = fails_first (λ x. before x j) k ks (same (λ x. before x j) ∙ none_j) in
    let e : k ≡ j = one_key k j second first in
    let rest = one_order ks js a.1 b.1 (λ p.
    let heads : ◌≡◌ {A = ℕ} (cond (p k) 1 0) (cond (p j) 1 0) = ap (λ (x : Key). cond (p x) 1 0) e in
    omega (arith, same p, counted p k ks, counted p j js, heads)) in
    ap (λ (x : Key). x ∷ ks) e ∙ ap (λ (xs : List Key). j ∷ xs) rest

-- items have one packing
pub one_packing : (items : List (Rect × ℕ)) (a b : List ℕ) → IsPacking items a → IsPacking items b → a ≡ b
unfolding SameCounts
one_packing items a b first second =
    let same = one_order first.order second.order (in_order first.order first.rises) (in_order second.order second.rises)
    (λ p. sum_by-IsPermutation (λ x. cond (p x) 1 0) (keys_of items) first.order first.each_once ∙ sym (sum_by-IsPermutation (λ x. cond (p x) 1 0) (keys_of items) second.order second.each_once)) in
    first.positions_are ∙ ap (map (λ (key : Key). key.2)) same ∙ sym second.positions_are
