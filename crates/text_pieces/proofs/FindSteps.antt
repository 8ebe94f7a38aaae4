-- A search for a byte, as the length of what stands before it.
use Rattle.std.proofs.Common.{◌≡◌, ℕ, Bool, true, false, List, length, get_or, refl, arith, Some, None, eqb}
use Rattle.std.proofs.lemmas.List.Sums.{position_or_len_is}
use Rattle.std.specs.List.{position_or_len}
use Rattle.memchr.specs.Find.{IsFirstByte, is_byte}

fails : (b : Bool) → (b ≡ true → ⊥) → b ≡ false
fails true h = absurd (h refl)
fails false h = refl

-- a place that is found
pub place_found : (byte : ℕ) (xs : List ℕ) (i : ℕ) → IsFirstByte (is_byte byte) xs (Some i) → position_or_len (λ c. eqb c byte) xs ≡ i
place_found byte xs i h = position_or_len_is (λ c. eqb c byte) xs i 0 (omega (arith, h.0.high)) (λ k lt. fails (eqb (get_or xs k 0) byte) (h.0.before k (omega arith) lt)) (λ lt. h.1)

-- none is found
pub place_none : (byte : ℕ) (xs : List ℕ) → IsFirstByte (is_byte byte) xs None → position_or_len (λ c. eqb c byte) xs ≡ length xs
place_none byte xs h = position_or_len_is (λ c. eqb c byte) xs (length xs) 0 (omega arith) (λ k lt. fails (eqb (get_or xs k 0) byte) (h k (omega arith) lt)) (λ lt. absurd (omega arith))
