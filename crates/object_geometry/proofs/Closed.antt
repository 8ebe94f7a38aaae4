-- When the last reference is the first again.
use Rattle.std.proofs.Common.{◌≡◌, ℕ, zero, suc, ◌-◌, ◌≤◌, List, [], ◌∷◌, length, get_or, true, ◌&&◌, Option, Some, refl, sym, ◌∙◌, ap, arith, nat_le, ℤ, pos}
use Rattle.std.proofs.lemmas.Bool.Decides.{nat_tests}
use Rattle.std.specs.List.{last_or}
use Rattle.std.specs.Ordering.{int_eq}
use Rattle.live_model.specs.Geometry.{is_closed, are_equal}

last_is : (o : Option ℤ) (refs : List ℤ) (n : ℕ) (d : ℤ) → length refs ≡ suc n → last_or o refs ≡ Some (get_or refs n d)
last_is o [] n d e = absurd (omega arith)
last_is o (r ∷ []) zero d e = refl
last_is o (r ∷ []) (suc n) d e = absurd (omega arith)
last_is o (r ∷ s ∷ refs) zero d e = absurd (omega arith)
last_is o (r ∷ s ∷ refs) (suc n) d e = last_is (Some r) (s ∷ refs) n d (omega arith)

at_least : (n m : ℕ) → n ≤ m → nat_le n m ≡ true
at_least n m le = grind (arith, nat_tests)

-- four references or more are closed exactly where their ends are equal
pub closed_by_ends : (refs : List ℤ) → 4 ≤ length refs → int_eq (get_or refs 0 (pos 0)) (get_or refs (length refs - 1) (pos 0)) ≡ is_closed refs
closed_by_ends [] le = absurd (omega arith)
closed_by_ends (r ∷ refs) le =
    let many = at_least 4 (length (r ∷ refs)) le in
    let last = last_is (Some r) refs (length refs - 1) (pos 0) (omega arith) in
    let place : suc (length refs) - 1 ≡ suc (length refs - 1) = omega arith in
    ap (λ k. int_eq r (get_or (r ∷ refs) k (pos 0))) place ∙ sym (ap (are_equal (Some r)) last)
    ∙ sym (ap (λ b. b && are_equal (Some r) (last_or (Some r) refs)) many)
