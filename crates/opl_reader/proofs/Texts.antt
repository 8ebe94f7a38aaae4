-- The fields of a line that is UTF-8 are UTF-8, and so are their values.
use Rattle.std.proofs.Common.{◌≡◌, ℕ, ◌+◌, ◌<◌, ◌≤◌, List, [], ◌∷◌, Bool, true, false, cond, not, ◌||◌, eqb, length, refl, sym, inl, inr, ◌⊎◌, get_or, IsTrue, arith, length-drop, filter, subst, zero, suc}
use Rattle.std.specs.List.{slice_split, position_or_len, before_first, after_first, AllByRecursion}
use Rattle.std.specs.Str.{IsUtf8, is_utf8}
use Rattle.std.proofs.lemmas.Bool.{eqb-true}
use Rattle.std.proofs.lemmas.List.Sums.{passes_at_first}
use Rattle.std.proofs.lemmas.List.Splits.{slice_split_first}
use Rattle.std.proofs.lemmas.Str.{IsUtf8-from_is_utf8, is_utf8-from_IsUtf8, IsUtf8-take, IsUtf8-drop, IsCharBoundary-before_ascii, IsCharBoundary-after_ascii}
use Rattle.text_pieces.specs.Lines.{is_blank, placed, fields_from}
use Rattle.text_pieces.proofs.FieldSteps.{split_none}
use Rattle.opl_reader.specs.Readings.{AreTexts}

pub seen_text : (bytes : List ℕ) → IsUtf8 bytes → is_utf8 bytes ≡ true
seen_text bytes utf8 = is_utf8-from_IsUtf8 bytes utf8

pub seen_other : (bytes : List ℕ) → ¬ (IsUtf8 bytes) → is_utf8 bytes ≡ false
seen_other bytes other = one (is_utf8 bytes) refl
  where
    one : (b : Bool) → is_utf8 bytes ≡ b → b ≡ false
    one true e = absurd (other (IsUtf8-from_is_utf8 bytes e))
    one false e = refl

blank_ascii : (c : ℕ) → is_blank c ≡ true → c < 128
blank_ascii c e = one (eqb c 32) (eqb c 9) refl refl e
  where
    one : (a b : Bool) → eqb c 32 ≡ a → eqb c 9 ≡ b → (a || b) ≡ true → c < 128
    one true b p q e = let is : c ≡ 32 = eqb-true c 32 p in omega arith
    one false true p q e = let is : c ≡ 9 = eqb-true c 9 q in omega arith
    one false false p q e = absurd (cc)

-- a byte that passes, or none
by_place : (p : ℕ → Bool) (bytes : List ℕ) → (position_or_len p bytes < length bytes) ⊎ (position_or_len p bytes ≡ length bytes)
by_place p [] = inr refl
by_place p (b ∷ bs) = one (p b) (by_place p bs)
  where
    one : (t : Bool) → (position_or_len p bs < length bs) ⊎ (position_or_len p bs ≡ length bs)
        → (cond (not t) (1 + position_or_len p bs) 0 < length (b ∷ bs)) ⊎ (cond (not t) (1 + position_or_len p bs) 0 ≡ length (b ∷ bs))
    one true h = inl (omega arith)
    one false (inl some) = inl (omega arith)
    one false (inr none) = inr (omega arith)

-- the pieces between blanks
pieces_are_utf8 : (most : ℕ) (bytes : List ℕ) → length bytes ≤ most → IsUtf8 bytes → AllByRecursion IsUtf8 (slice_split is_blank bytes)
pieces_are_utf8 zero bytes short utf8 = subst (AllByRecursion IsUtf8) (sym (split_none is_blank bytes (none bytes short))) (utf8, tt)
  where
    none : (xs : List ℕ) → length xs ≤ 0 → position_or_len is_blank xs ≡ length xs
    none [] e = refl
    none (x ∷ xs) e = absurd (omega arith)
pieces_are_utf8 (suc most) bytes short utf8 = one (by_place is_blank bytes) (pieces_are_utf8 most)
  where
    one : (position_or_len is_blank bytes < length bytes) ⊎ (position_or_len is_blank bytes ≡ length bytes)
        → ((rest : List ℕ) → length rest ≤ most → IsUtf8 rest → AllByRecursion IsUtf8 (slice_split is_blank rest))
        → AllByRecursion IsUtf8 (slice_split is_blank bytes)
    one (inr none) again = subst (AllByRecursion IsUtf8) (sym (split_none is_blank bytes none)) (utf8, tt)
    one (inl some) again =
        let blank : get_or bytes (position_or_len is_blank bytes) 0 < 128 = blank_ascii _ (passes_at_first is_blank bytes 0 some) in
        let long = length-drop (position_or_len is_blank bytes + 1) bytes in
        let first : IsUtf8 (before_first is_blank bytes) = IsUtf8-take bytes (position_or_len is_blank bytes) utf8 (IsCharBoundary-before_ascii bytes (position_or_len is_blank bytes) some blank) in
        let last : IsUtf8 (after_first is_blank bytes) = IsUtf8-drop bytes (position_or_len is_blank bytes + 1) utf8 (IsCharBoundary-after_ascii bytes (position_or_len is_blank bytes) utf8 some blank) in
        subst (AllByRecursion IsUtf8) (sym (slice_split_first is_blank bytes 0 some)) (first, again (after_first is_blank bytes) (omega arith) last)

placed_are_texts : (at : ℕ) (pieces : List (List ℕ)) → AllByRecursion IsUtf8 pieces → AreTexts (placed at pieces)
placed_are_texts at [] all = tt
placed_are_texts at (piece ∷ pieces) all = (true_is (is_utf8-from_IsUtf8 piece all.0), placed_are_texts (at + (length piece + 1)) pieces all.1)
  where
    true_is : {b : Bool} → b ≡ true → IsTrue b
    true_is e = e

kept_are_texts : (q : ℕ × List ℕ → Bool) (fs : List (ℕ × List ℕ)) → AreTexts fs → AreTexts (filter q fs)
kept_are_texts q [] all = tt
kept_are_texts q (f ∷ fs) all =
    elim (q f) as (λ b. AreTexts (cond b (f ∷ filter q fs) (filter q fs))) [
      | true ↦ (all.0, kept_are_texts q fs all.1)
      | false ↦ kept_are_texts q fs all.1
    ]

-- The fields of UTF-8 bytes are UTF-8.
pub fields_are_texts : (at : ℕ) (bytes : List ℕ) → is_utf8 bytes ≡ true → AreTexts (fields_from at bytes)
unfolding fields_from
fields_are_texts at bytes utf8 =
    kept_are_texts (λ f. not (eqb (length f.1) 0)) (placed at (slice_split is_blank bytes))
    (placed_are_texts at (slice_split is_blank bytes) (pieces_are_utf8 (length bytes) bytes (omega arith) (IsUtf8-from_is_utf8 bytes utf8)))

-- What stands behind an ASCII byte at the front is UTF-8.
pub value_is_text : (c : ℕ) (value : List ℕ) → is_utf8 (c ∷ value) ≡ true → c < 128 → is_utf8 value ≡ true
value_is_text c value utf8 ascii =
    let whole : IsUtf8 (c ∷ value) = IsUtf8-from_is_utf8 (c ∷ value) utf8 in
    is_utf8-from_IsUtf8 value (IsUtf8-drop (c ∷ value) 1 whole (IsCharBoundary-after_ascii (c ∷ value) 0 whole (omega arith) ascii))
