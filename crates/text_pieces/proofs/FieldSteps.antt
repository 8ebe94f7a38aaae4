-- How a reader goes from field to field.
use Rattle.std.proofs.Common.{◌≡◌, ℕ, ◌+◌, ◌<◌, Bool, true, false, cond, not, List, [], ◌∷◌, length, drop, refl, ap, ◌∙◌, arith, eqb, filter}
use Rattle.std.proofs.lemmas.Bool.{ne_eqb}
use Rattle.std.proofs.lemmas.List.{length-take-le}
use Rattle.std.specs.List.{slice_split, onto_first, position_or_len, before_first, after_first}
use Rattle.std.proofs.lemmas.List.Splits.{slice_split_first}
use Rattle.text_pieces.specs.Lines.{is_blank, placed, fields_from}

-- without a separator the list is one piece
pub split_none : {X : Type 0} (p : X → Bool) (xs : List X) → position_or_len p xs ≡ length xs → slice_split p xs ≡ xs ∷ []
split_none p [] e = refl
split_none p (x ∷ xs) e =
    elim (p x) as (λ b. cond (not b) (1 + position_or_len p xs) 0 ≡ length (x ∷ xs) → cond b ([] ∷ slice_split p xs) (onto_first x (slice_split p xs)) ≡ (x ∷ xs) ∷ []) [
      | true ↦ λ h. absurd (omega arith)
      | false ↦ λ h. ap (onto_first x) (split_none p xs (omega arith))
    ] e

-- no bytes have no field
pub fields_none : (at : ℕ) (xs : List ℕ) → length xs ≡ 0 → fields_from at xs ≡ []
unfolding fields_from
fields_none at [] e = refl
fields_none at (x ∷ xs) e = absurd (omega arith)

-- a blank at the front is passed over
pub fields_blank : (at : ℕ) (xs : List ℕ) → position_or_len is_blank xs ≡ 0 → 0 < length xs → fields_from at xs ≡ fields_from (at + 1) (drop 1 xs)
unfolding fields_from
fields_blank at [] e some = absurd (omega arith)
fields_blank at (c ∷ cs) e some =
    elim (is_blank c) as (λ b. cond (not b) (1 + position_or_len is_blank cs) 0 ≡ 0 → filter (λ f. not (eqb (length f.1) 0)) (placed at (cond b ([] ∷ slice_split is_blank cs) (onto_first c (slice_split is_blank cs)))) ≡ fields_from (at + 1) cs) [
      | true ↦ λ h. refl
      | false ↦ λ h. absurd (omega arith)
    ] e

kept : (at : ℕ) (w : List ℕ) (fs : List (ℕ × List ℕ)) → 0 < length w → filter (λ f. not (eqb (length f.1) 0)) ((at, w) ∷ fs) ≡ (at, w) ∷ filter (λ f. not (eqb (length f.1) 0)) fs
kept at w fs some = rw (ne_eqb (length w) 0 (λ e. omega arith)) refl

-- the first field, where a blank follows
pub fields_first : (at : ℕ) (xs : List ℕ) → 0 < position_or_len is_blank xs → position_or_len is_blank xs < length xs
    → fields_from at xs ≡ (at, before_first is_blank xs) ∷ fields_from (at + (position_or_len is_blank xs + 1)) (after_first is_blank xs)
unfolding fields_from
fields_first at xs some h =
    let long : length (before_first is_blank xs) ≡ position_or_len is_blank xs = length-take-le _ xs (omega arith) in
    ap (λ ps. filter (λ f. not (eqb (length f.1) 0)) (placed at ps)) (slice_split_first is_blank xs 0 h)
    ∙ kept at (before_first is_blank xs) (placed (at + (length (before_first is_blank xs) + 1)) (slice_split is_blank (after_first is_blank xs))) (omega arith)
    ∙ ap (λ n. (at, before_first is_blank xs) ∷ fields_from (at + (n + 1)) (after_first is_blank xs)) long

-- the last field
pub fields_last : (at : ℕ) (xs : List ℕ) → 0 < length xs → position_or_len is_blank xs ≡ length xs → fields_from at xs ≡ (at, xs) ∷ []
unfolding fields_from
fields_last at xs some h =
    ap (λ ps. filter (λ f. not (eqb (length f.1) 0)) (placed at ps)) (split_none is_blank xs h) ∙ kept at xs [] some
