-- How a reader goes from line to line.
use Rattle.std.proofs.Common.{◌≡◌, ℕ, ◌+◌, ◌<◌, Bool, true, false, cond, not, List, [], ◌∷◌, length, take, drop, refl, ap, arith, suc, one-add, eqb}
use Rattle.std.proofs.lemmas.List.{length-take-le}
use Rattle.std.specs.List.{onto_first, position_or_len, before_first, after_first}
use Rattle.std.specs.Str.Lines.{strip_carriage_return}
use Rattle.text_pieces.specs.Lines.{cut_at_line_feeds, placed, without_returns, lines_from}

abbrev is_line_feed : ℕ → Bool
is_line_feed c = eqb c 10

-- bytes without a line feed are one line
cut_none : (xs : List ℕ) → 0 < length xs → position_or_len is_line_feed xs ≡ length xs → cut_at_line_feeds xs ≡ xs ∷ []
cut_none [] some e = absurd (omega arith)
cut_none (x ∷ []) some e =
    elim (is_line_feed x) as (λ b. cond (not b) (1 + 0) 0 ≡ 1 → cond b ([] ∷ []) (onto_first x []) ≡ (x ∷ []) ∷ []) [
      | true ↦ λ h. absurd (omega arith)
      | false ↦ λ h. refl
    ] e
cut_none (x ∷ y ∷ ys) some e =
    elim (is_line_feed x) as (λ b. cond (not b) (1 + position_or_len is_line_feed (y ∷ ys)) 0 ≡ length (x ∷ y ∷ ys) → cond b ([] ∷ cut_at_line_feeds (y ∷ ys)) (onto_first x (cut_at_line_feeds (y ∷ ys))) ≡ (x ∷ y ∷ ys) ∷ []) [
      | true ↦ λ h. absurd (omega arith)
      | false ↦ λ h. ap (onto_first x) (cut_none (y ∷ ys) (omega arith) (omega arith))
    ] e

-- what stands before the first line feed is a line, and the rest follows
cut_first : (xs : List ℕ) → position_or_len is_line_feed xs < length xs → cut_at_line_feeds xs ≡ before_first is_line_feed xs ∷ cut_at_line_feeds (after_first is_line_feed xs)
cut_first [] h = absurd (omega arith)
cut_first (x ∷ xs) h =
    elim (is_line_feed x) as (λ b. cond (not b) (1 + position_or_len is_line_feed xs) 0 < length (x ∷ xs) → cond b ([] ∷ cut_at_line_feeds xs) (onto_first x (cut_at_line_feeds xs)) ≡ take (cond (not b) (1 + position_or_len is_line_feed xs) 0) (x ∷ xs) ∷ cut_at_line_feeds (drop (cond (not b) (1 + position_or_len is_line_feed xs) 0 + 1) (x ∷ xs))) [
      | true ↦ λ h. refl
      | false ↦ λ h.
          let past : 1 + position_or_len is_line_feed xs + 1 ≡ suc (position_or_len is_line_feed xs + 1) = omega arith in
          rw (past, one-add (position_or_len is_line_feed xs)) (ap (onto_first x) (cut_first xs (omega arith)))
    ] h

-- the first line, where a line feed ends it
pub lines_first : (at : ℕ) (xs : List ℕ) → position_or_len is_line_feed xs < length xs
    → lines_from at xs ≡ (at, strip_carriage_return (before_first is_line_feed xs)) ∷ lines_from (at + (position_or_len is_line_feed xs + 1)) (after_first is_line_feed xs)
unfolding lines_from
lines_first at xs h =
    let long : length (before_first is_line_feed xs) ≡ position_or_len is_line_feed xs = length-take-le _ xs (omega arith) in
    rw (cut_first xs h, long) refl

-- the last line, where none does
pub lines_last : (at : ℕ) (xs : List ℕ) → 0 < length xs → position_or_len is_line_feed xs ≡ length xs → lines_from at xs ≡ (at, strip_carriage_return xs) ∷ []
unfolding lines_from
lines_last at xs some h = ap (λ ps. without_returns (placed at ps)) (cut_none xs some h)

-- no bytes have no line
pub lines_none : (at : ℕ) (xs : List ℕ) → length xs ≡ 0 → lines_from at xs ≡ []
unfolding lines_from
lines_none at [] e = refl
lines_none at (x ∷ xs) e = absurd (omega arith)
