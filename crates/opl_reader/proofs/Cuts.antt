-- What stands before a byte and what stands behind it.
use Rattle.std.proofs.Common.{◌≡◌, ℕ, ◌+◌, ◌<◌, List, [], ◌∷◌, Bool, true, false, cond, length, take, drop, Option, Some, None, Bor, MatchOption, refl, sym, ap, ◌∙◌, arith, length-drop, inl, inr, ◌⊎◌, not}
use Rattle.std.specs.Prelude.{◌==◌}
use Rattle.std.specs.List.{slice_split, position_or_len, before_first, after_first}
use Rattle.std.proofs.lemmas.Bool.{eq-eqb, ne_eqb}
use Rattle.std.proofs.lemmas.List.{length-take-le}
use Rattle.std.proofs.lemmas.List.Splits.{slice_split_first}
use Rattle.text_pieces.proofs.FieldSteps.{split_none}
use Rattle.live_model.specs.FieldValues.{parted_at}

abbrev is_byte : ℕ → ℕ → Bool
is_byte c b = b == c

pub cut_some : (c : ℕ) (bytes : List ℕ) → position_or_len (is_byte c) bytes < length bytes
    → parted_at c bytes ≡ Some (take (position_or_len (is_byte c) bytes) bytes, drop (position_or_len (is_byte c) bytes + 1) bytes)
cut_some c bytes some =
    let long : length (before_first (is_byte c) bytes) ≡ position_or_len (is_byte c) bytes = length-take-le _ bytes (omega arith) in
    rw (ne_eqb (length (before_first (is_byte c) bytes)) (length bytes) (λ e. omega arith)) refl

pub cut_none : (c : ℕ) (bytes : List ℕ) → position_or_len (is_byte c) bytes ≡ length bytes → parted_at c bytes ≡ None
cut_none c bytes none =
    let long : length (before_first (is_byte c) bytes) ≡ length bytes = length-take-le _ bytes (omega arith) ∙ none in
    rw (eq-eqb (length (before_first (is_byte c) bytes)) (length bytes) long) refl

-- a place of the byte, or none
by_place : (c : ℕ) (bytes : List ℕ) → (position_or_len (is_byte c) bytes < length bytes) ⊎ (position_or_len (is_byte c) bytes ≡ length bytes)
by_place c [] = inr refl
by_place c (b ∷ bs) = one (b == c) (by_place c bs)
  where
    one : (t : Bool) → (position_or_len (is_byte c) bs < length bs) ⊎ (position_or_len (is_byte c) bs ≡ length bs)
        → (cond (not t) (1 + position_or_len (is_byte c) bs) 0 < length (b ∷ bs)) ⊎ (cond (not t) (1 + position_or_len (is_byte c) bs) 0 ≡ length (b ∷ bs))
    one true h = inl (omega arith)
    one false (inl some) = inl (omega arith)
    one false (inr none) = inr (omega arith)

-- where there is no such byte the bytes are one piece
pub split_whole : (c : ℕ) (bytes : List ℕ) → parted_at c bytes ≡ None → slice_split (is_byte c) bytes ≡ bytes ∷ []
split_whole c bytes e =
    elim (by_place c bytes) [
      | inl some ↦ let f = cut_some c bytes some in absurd (cc)
      | inr none ↦ split_none (is_byte c) bytes none
    ]

-- what stands before the byte is the first piece, and what stands behind it holds the others
pub split_parted : (c : ℕ) (bytes before after : List ℕ) → parted_at c bytes ≡ Some (before, after)
    → (slice_split (is_byte c) bytes ≡ before ∷ slice_split (is_byte c) after) × (length after < length bytes)
split_parted c bytes before after e =
    elim (by_place c bytes) [
      | inl some ↦
          let parts = unwrapped _ _ (sym (cut_some c bytes some) ∙ e) in
          parted some (ap (λ (p : List ℕ × List ℕ). p.0) parts) (ap (λ (p : List ℕ × List ℕ). p.1) parts)
      | inr none ↦ let f = cut_none c bytes none in absurd (cc)
    ]
  where
    unwrapped : (x y : List ℕ × List ℕ) → Some x ≡ Some y → x ≡ y
    unwrapped x y e = cc

    parted : position_or_len (is_byte c) bytes < length bytes → before_first (is_byte c) bytes ≡ before → after_first (is_byte c) bytes ≡ after
        → (slice_split (is_byte c) bytes ≡ before ∷ slice_split (is_byte c) after) × (length after < length bytes)
    parted some first last =
        let short = length-drop (position_or_len (is_byte c) bytes + 1) bytes in
        let long : length (after_first (is_byte c) bytes) ≡ length after = ap length last in (
          slice_split_first (is_byte c) bytes 0 some ∙ ap (λ xs. xs ∷ slice_split (is_byte c) (after_first (is_byte c) bytes)) first ∙ ap (λ xs. before ∷ slice_split (is_byte c) xs) last,
          omega arith,
        )

-- the parts round the first byte are the first piece and the others
pub split_cut : (c : ℕ) (bytes : List ℕ) (r : Option (Bor (List ℕ) × Bor (List ℕ)))
    → MatchOption r (parted_at c bytes ≡ None) (λ parts. parted_at c bytes ≡ Some (parts.0.now, parts.1.now))
    → MatchOption r (slice_split (is_byte c) bytes ≡ bytes ∷ []) (λ parts. slice_split (is_byte c) bytes ≡ parts.0.now ∷ slice_split (is_byte c) parts.1.now)
split_cut c bytes None none = split_whole c bytes none
split_cut c bytes (Some parts) some = (split_parted c bytes parts.0.now parts.1.now some).0
