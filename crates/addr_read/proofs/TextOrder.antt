-- The order of texts, and texts that begin with another one.
use Rattle.std.proofs.Common.{◌≡◌, ◌==◌, ℕ, Bool, true, false, ◌&&◌, ◌||◌, List, [], ◌∷◌, refl, sym, ap, ◌∙◌, arith}
use Rattle.std.specs.List.{starts_with}
use Rattle.std.specs.Ordering.{is_gt, is_le, is_lt, nat_cmp, ordering_then, ordering_reverse}
use Rattle.std.specs.declared.cmp.Ordering.{Ordering}
use Rattle.std.specs.declared.cmp.Ordering.TheVariants.{Less, Equal, Greater}
use Rattle.std.proofs.lemmas.Bool.{and_parts, eqb-true}
use Rattle.std.proofs.lemmas.Bool.Decides.{nat_tests}
use Rattle.std.proofs.lemmas.Cmp.{nat_cmp_total, nat_list_cmp_total, upto, alike_right, tied_itself}
use Rattle.text_table.specs.Tables.{text_cmp}
use Rattle.addr_read.specs.Finding.{is_below, is_reached}
use Rattle.addr_read.specs.Searching.{IsAtMost}

-- a text begins with another one
abbrev pub begins : List ℕ → List ℕ → Bool
begins x k = starts_with (λ c d. c == d) x k

-- ---- at most

pub at_most_through : (a b c : List ℕ) → IsAtMost a b → IsAtMost b c → IsAtMost a c
at_most_through = upto nat_list_cmp_total

pub at_most_itself : (a : List ℕ) → IsAtMost a a
at_most_itself a = ap is_gt (tied_itself nat_list_cmp_total a)

le_not_gt : (r : Ordering) → is_gt r ≡ false → is_le r ≡ true
le_not_gt Less e = refl
le_not_gt Equal e = refl
le_not_gt Greater e = absurd cc

not_gt_le : (r : Ordering) → is_le r ≡ true → is_gt r ≡ false
not_gt_le Less e = refl
not_gt_le Equal e = refl
not_gt_le Greater e = absurd cc

lt_not_gt : (r : Ordering) → is_lt r ≡ true → is_gt r ≡ false
lt_not_gt Less e = refl
lt_not_gt Equal e = absurd cc
lt_not_gt Greater e = absurd cc

turned : (r : Ordering) → is_gt r ≡ false → is_lt (ordering_reverse r) ≡ false
turned Less e = refl
turned Equal e = refl
turned Greater e = absurd cc

equal_numbers : (c b : ℕ) → (c == b) ≡ true → nat_cmp c b ≡ Equal
equal_numbers c b e = ap (λ (n : ℕ). nat_cmp c n) (sym (eqb-true c b e)) ∙ tied_itself nat_cmp_total c

-- a text is at most what begins with it
pub front_at_most : (y k : List ℕ) → begins y k ≡ true → IsAtMost k y
front_at_most [] [] e = refl
front_at_most (b ∷ y) [] e = refl
front_at_most [] (c ∷ k) e = absurd cc
front_at_most (b ∷ y) (c ∷ k) e =
    let parts = and_parts (c == b) (begins y k) e in
    ap (λ (r : Ordering). is_gt (ordering_then r (text_cmp k y))) (equal_numbers c b parts.0) ∙ front_at_most y k parts.1

-- what is at most a last text that is not below
pub not_below : (k y last : List ℕ) → IsAtMost k y → IsAtMost y last → is_below k last ≡ false
not_below k y last low high = ap is_lt (nat_list_cmp_total.antisymm last k) ∙ turned (text_cmp k last) (at_most_through k y last low high)

-- ---- reached by what begins with a text

abbrev reached_then : Ordering → Bool → Bool
reached_then Less r = true
reached_then Equal r = r
reached_then Greater r = false

-- at most a text or beginning with it, byte by byte
abbrev reaches : List ℕ → List ℕ → Bool
reaches x [] = true
reaches [] (c ∷ k) = true
reaches (b ∷ x) (c ∷ k) = reached_then (nat_cmp b c) (reaches x k)

other_numbers : (b c : ℕ) → nat_cmp b c ≡ Greater → (c == b) ≡ false
other_numbers b c e = grind (arith, nat_tests)

same_numbers : (b c : ℕ) → nat_cmp b c ≡ Equal → (c == b) ≡ true
same_numbers b c e = grind (arith, nat_tests)

reached_is : (x k : List ℕ) → is_reached false k x ≡ reaches x k
reached_is [] [] = refl
reached_is (b ∷ x) [] = refl
reached_is [] (c ∷ k) = refl
reached_is (b ∷ x) (c ∷ k) = one (nat_cmp b c) refl (reached_is x k)
  where
    one : (r : Ordering) → nat_cmp b c ≡ r → (is_le (text_cmp x k) || begins x k) ≡ reaches x k
        → (is_le (ordering_then (nat_cmp b c) (text_cmp x k)) || ((c == b) && begins x k)) ≡ reached_then (nat_cmp b c) (reaches x k)
    one Less e again = rw e refl
    one Equal e again = rw (same_numbers b c e) rw e again
    one Greater e again = rw (other_numbers b c e) rw e refl

-- what is before a text that is reached is reached
reached_through : (x y k : List ℕ) → IsAtMost x y → reaches y k ≡ true → reaches x k ≡ true
reached_through x y [] low e = refl
reached_through [] y (c ∷ k) low e = refl
reached_through (a ∷ x) [] (c ∷ k) low e = absurd cc
reached_through (a ∷ x) (b ∷ y) (c ∷ k) low e = one (nat_cmp a b) (nat_cmp b c) refl refl low e (reached_through x y k)
  where
    one : (r s : Ordering) → nat_cmp a b ≡ r → nat_cmp b c ≡ s → is_gt (ordering_then r (text_cmp x y)) ≡ false → reached_then s (reaches y k) ≡ true
        → (IsAtMost x y → reaches y k ≡ true → reaches x k ≡ true) → reached_then (nat_cmp a c) (reaches x k) ≡ true
    one Greater s p q low e again = absurd cc
    one Less Greater p q low e again = absurd cc
    one Equal Greater p q low e again = absurd cc
    one Less Less p q low e again = rw (nat_cmp_total.trans a b c p q) refl
    one Less Equal p q low e again = rw (← alike_right nat_cmp_total b c a q) rw p refl
    one Equal Less p q low e again = rw (nat_cmp_total.congr a b c p) rw q refl
    one Equal Equal p q low e again = rw (nat_cmp_total.congr a b c p) rw q (again low e)

-- ---- what a search by a key asks of a first text

pub reached_front : (houses : Bool) (x y k : List ℕ) → IsAtMost x y → is_reached houses k y ≡ true → is_reached houses k x ≡ true
reached_front true x y k low e = le_not_gt (text_cmp x k) (at_most_through x y k low (not_gt_le (text_cmp y k) e))
reached_front false x y k low e = reached_is x k ∙ reached_through x y k low (sym (reached_is y k) ∙ e)

-- a text that begins so is reached, and so is the text itself
pub reached_begun : (y k : List ℕ) → begins y k ≡ true → is_reached false k y ≡ true
reached_begun y k e = rw e (one (is_le (text_cmp y k)))
  where
    one : (b : Bool) → (b || true) ≡ true
    one true = refl
    one false = refl

pub reached_itself : (k : List ℕ) → is_reached true k k ≡ true
reached_itself k = le_not_gt (text_cmp k k) (at_most_itself k)

-- a first text whose last one is below is reached
pub reached_below : (houses : Bool) (first last k : List ℕ) → IsAtMost first last → is_below k last ≡ true → is_reached houses k first ≡ true
reached_below true first last k low e = le_not_gt (text_cmp first k) (at_most_through first last k low (lt_not_gt (text_cmp last k) e))
reached_below false first last k low e = rw (le_not_gt (text_cmp first k) (at_most_through first last k low (lt_not_gt (text_cmp last k) e))) refl

-- what is at most a text below is below
pub below_front : (x y k : List ℕ) → IsAtMost x y → is_below k y ≡ true → is_below k x ≡ true
below_front x y k low e = one (text_cmp x y) (text_cmp y k) refl refl low e
  where
    one : (r s : Ordering) → text_cmp x y ≡ r → text_cmp y k ≡ s → is_gt r ≡ false → is_lt s ≡ true → is_below k x ≡ true
    one Greater s p q low e = absurd cc
    one r Greater p q low e = absurd cc
    one r Equal p q low e = absurd cc
    one Less Less p q low e = ap is_lt (nat_list_cmp_total.trans x y k p q)
    one Equal Less p q low e = ap is_lt (nat_list_cmp_total.congr x y k p ∙ q)
