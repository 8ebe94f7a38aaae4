-- Zeros that are cut from the end of digits, and put back.
use Rattle.std.proofs.Common.{◌≡◌, ℕ, ◌+◌, ◌-◌, ◌≤◌, Bool, true, false, cond, List, [], ◌∷◌, ◌++◌, length, take, reverse, refl, ap, ◌∙◌, arith, eqb, suc, zero, replicate}
use Rattle.std.proofs.lemmas.Bool.{eqb-true}
use Rattle.std.proofs.lemmas.List.{reverse-append, length-reverse, length-take-le}
use Rattle.std.proofs.lemmas.List.Folds.{prefix_len-append}
use Rattle.std.proofs.lemmas.List.Sums.{suffix_len-le-length}
use Rattle.std.specs.List.{suffix_len, prefix_len}
use Rattle.text_pieces.specs.Coordinates.{trimmed}

abbrev is_zero : ℕ → Bool
is_zero d = eqb d 48

-- the zeros at the end, seen from the front
suffix_len-cons : (x : ℕ) (xs : List ℕ) → suffix_len is_zero (x ∷ xs) ≡ cond (eqb (suffix_len is_zero xs) (length xs)) (length xs + cond (is_zero x) (1 + 0) 0) (suffix_len is_zero xs)
suffix_len-cons x xs =
    ap (prefix_len is_zero) (reverse-append (x ∷ []) xs) ∙ rw (← length-reverse xs) (prefix_len-append is_zero (reverse xs) (x ∷ []))

-- where not all are zeros, the first is none of those at the end
suffix_len-short : (x : ℕ) (xs : List ℕ) → suffix_len is_zero (x ∷ xs) ≤ length xs → suffix_len is_zero (x ∷ xs) ≡ suffix_len is_zero xs
suffix_len-short x xs short = one (eqb (suffix_len is_zero xs) (length xs)) refl
  where
    one : (b : Bool) → eqb (suffix_len is_zero xs) (length xs) ≡ b → suffix_len is_zero (x ∷ xs) ≡ suffix_len is_zero xs
    one false e = suffix_len-cons x xs ∙ rw e refl
    one true e =
        let all = eqb-true (suffix_len is_zero xs) (length xs) e in
        let here : suffix_len is_zero (x ∷ xs) ≡ length xs + cond (is_zero x) (1 + 0) 0 = suffix_len-cons x xs ∙ rw e refl in
        omega arith

-- where all are zeros, the first is one and the others are
suffix_len-all : (x : ℕ) (xs : List ℕ) → suffix_len is_zero (x ∷ xs) ≡ 1 + length xs → (x ≡ 48) × (suffix_len is_zero xs ≡ length xs)
suffix_len-all x xs all = one (eqb (suffix_len is_zero xs) (length xs)) refl (is_zero x) refl
  where
    one : (b : Bool) → eqb (suffix_len is_zero xs) (length xs) ≡ b → (z : Bool) → is_zero x ≡ z → (x ≡ 48) × (suffix_len is_zero xs ≡ length xs)
    one true e true h = (eqb-true x 48 h, eqb-true (suffix_len is_zero xs) (length xs) e)
    one true e false h =
        let here : suffix_len is_zero (x ∷ xs) ≡ length xs + 0 = suffix_len-cons x xs ∙ rw (e, h) refl in
        absurd (omega arith)
    one false e z h =
        let here : suffix_len is_zero (x ∷ xs) ≡ suffix_len is_zero xs = suffix_len-cons x xs ∙ rw e refl in
        absurd (omega (arith, suffix_len-le-length is_zero xs))

-- what stands before the zeros, and the zeros
kept-zeros : (ds : List ℕ) (n s : ℕ) → s ≡ suffix_len is_zero ds → n + s ≡ length ds → take n ds ++ replicate s 48 ≡ ds
kept-zeros [] zero zero e h = refl
kept-zeros [] zero (suc s) e h = absurd (omega arith)
kept-zeros [] (suc n) s e h = absurd (omega arith)
kept-zeros (x ∷ xs) zero zero e h = absurd (omega arith)
kept-zeros (x ∷ xs) zero (suc s) e h =
    let all = suffix_len-all x xs (omega arith) in
    let rest : replicate s 48 ≡ xs = kept-zeros xs zero s (omega arith) (omega arith) in
    let first : x ≡ 48 = all.0 in
    rw (first, rest) refl
kept-zeros (x ∷ xs) (suc n) s e h = ap (λ ys. x ∷ ys) (kept-zeros xs n s (e ∙ suffix_len-short x xs (omega arith)) (omega arith))

-- The zeros that were cut fill the digits up again.
pub trimmed-filled : (ds : List ℕ) → trimmed ds ++ replicate (length ds - length (trimmed ds)) 48 ≡ ds
trimmed-filled ds =
    let within = suffix_len-le-length is_zero ds in
    let kept : length (trimmed ds) ≡ length ds - suffix_len is_zero ds = length-take-le _ ds (omega arith) in
    let cut : length ds - length (trimmed ds) ≡ suffix_len is_zero ds = omega arith in
    ap (λ n. trimmed ds ++ replicate n 48) cut ∙ kept-zeros ds (length ds - suffix_len is_zero ds) (suffix_len is_zero ds) refl (omega arith)
