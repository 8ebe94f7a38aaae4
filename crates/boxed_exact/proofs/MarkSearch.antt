-- A binary search in rising ordinals finds each of them.
use Rattle.std.proofs.Common.{◌≡◌, ◌≢◌, ℕ, zero, suc, ◌<◌, ◌≤◌, Bool, true, false, List, [], ◌∷◌, length, get_or, Ok, Err, refl, sym, inl, inr, arith}
use Rattle.std.specs.Prelude.{◌==◌}
use Rattle.std.specs.List.{AllByRecursion, list_any}
use Rattle.std.specs.List.Sorted.{IsBinarySearchResult}
use Rattle.std.specs.Ordering.{nat_cmp}
use Rattle.std.specs.declared.cmp.Ordering.TheVariants.{Less}
use Rattle.std.proofs.lemmas.Bool.{eq-eqb, ne_eqb, or_left, or_right, or_from, cases_lt}
use Rattle.std.proofs.lemmas.Bool.Decides.{nat_tests}
use Rattle.std.proofs.lemmas.List.Sorted.{searched}
use Rattle.ordered_lists.specs.Ordered.{IsRisingBy}

abbrev pub Rises : List ℕ → Type 0
Rises xs = IsRisingBy nat_cmp (λ n. n) xs

less : (a b : ℕ) → nat_cmp a b ≡ Less → a < b
less a b h = grind (arith, nat_tests)

above_at : (x : ℕ) (xs : List ℕ) (i : ℕ) → AllByRecursion (λ y. nat_cmp x y ≡ Less) xs → i < length xs → x < get_or xs i 0
above_at x [] i all inside = absurd (omega arith)
above_at x (y ∷ ys) zero all inside = less x y all.0
above_at x (y ∷ ys) (suc i) all inside = above_at x ys i all.1 (omega arith)

rising_le : (xs : List ℕ) → Rises xs → (i j : ℕ) → i ≤ j → j < length xs → get_or xs i 0 ≤ get_or xs j 0
rising_le [] r i j le inside = absurd (omega arith)
rising_le (x ∷ xs) r zero zero le inside = omega arith
rising_le (x ∷ xs) r zero (suc j) le inside = let h = above_at x xs j r.0 (omega arith) in omega arith
rising_le (x ∷ xs) r (suc i) zero le inside = absurd (omega arith)
rising_le (x ∷ xs) r (suc i) (suc j) le inside = rising_le xs r.1 i j (omega arith) (omega arith)

abbrev any_is : ℕ → List ℕ → Bool
any_is n xs = list_any (λ mark. mark == n) xs

any_at : (xs : List ℕ) (n i : ℕ) → i < length xs → get_or xs i 0 ≡ n → any_is n xs ≡ true
any_at [] n i inside e = absurd (omega arith)
any_at (x ∷ xs) n zero inside e = or_left (x == n) _ (eq-eqb x n e)
any_at (x ∷ xs) n (suc i) inside e = or_right (x == n) _ (any_at xs n i (omega arith) e)

pub any_none : (xs : List ℕ) (n : ℕ) → ((k : ℕ) → k < length xs → get_or xs k 0 ≢ n) → any_is n xs ≡ false
any_none [] n none = refl
any_none (x ∷ xs) n none = or_from (x == n) _ (ne_eqb x n (none 0 (omega arith))) (any_none xs n (λ k inside. none (suc k) (omega arith)))

pub found : (xs : List ℕ) (n i : ℕ) → Rises xs → IsBinarySearchResult (λ y. nat_cmp y n) xs (Ok i) → true ≡ any_is n xs
found xs n i r h = let s = searched xs n (Ok i) h (rising_le xs r) in sym (any_at xs n i s.0 s.1)

pub absent : (xs : List ℕ) (n i : ℕ) → Rises xs → IsBinarySearchResult (λ y. nat_cmp y n) xs (Err i) → false ≡ any_is n xs
absent xs n i r h =
    let s = searched xs n (Err i) h (rising_le xs r) in
    sym (any_none xs n (λ k inside e. elim (cases_lt k i) [ inl lt ↦ (let a = s.1 k lt in omega arith) | inr ge ↦ (let a = s.2 k ge inside in omega arith) ]))
