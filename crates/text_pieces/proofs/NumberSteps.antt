-- How the number of digits grows.
use Rattle.std.proofs.Common.{◌≡◌, ℕ, ◌+◌, ◌*◌, ◌-◌, ◌^◌, ◌≤◌, List, [], ◌∷◌, ◌++◌, refl, sym, ap, ◌∙◌, arith, suc, zero, replicate}
use Rattle.std.proofs.Math.Nat.{pow-succ'}
use Rattle.text_pieces.specs.Numbers.{decimal_after}

-- digits make a number no smaller
pub decimal_after_ge : (n : ℕ) (ds : List ℕ) → n ≤ decimal_after n ds
decimal_after_ge n [] = omega arith
decimal_after_ge n (d ∷ ds) = omega (arith, decimal_after_ge (10 * n + (d - 48)) ds)

pub decimal_after-append : (n : ℕ) (xs ys : List ℕ) → decimal_after n (xs ++ ys) ≡ decimal_after (decimal_after n xs) ys
decimal_after-append n [] ys = refl
decimal_after-append n (d ∷ ds) ys = decimal_after-append (10 * n + (d - 48)) ds ys

shifted : (n p : ℕ) → (10 * n + 0) * p ≡ n * (10 * p)
shifted n p = omega arith

-- each zero multiplies by ten
pub decimal_after-zeros : (n k : ℕ) → decimal_after n (replicate k 48) ≡ n * 10 ^ k
decimal_after-zeros n zero = omega arith
decimal_after-zeros n (suc k) = decimal_after-zeros (10 * n + 0) k ∙ shifted n (10 ^ k) ∙ ap (λ p. n * p) (sym (pow-succ' 10 k))
