-- The fields of a line that is UTF-8 are UTF-8, and what they spell is not empty.
use Rattle.std.proofs.Common.{◌≡◌, ◌≢◌, ℕ, ◌+◌, ◌<◌, ◌≤◌, List, [], ◌∷◌, ◌++◌, Bool, true, false, cond, not, ◌||◌, ◌&&◌, eqb, length, refl, sym, ap, ◌∙◌, inl, inr, ◌⊎◌, get_or, IsTrue, arith, length-drop, filter, subst, zero, suc, Option, Some, None, nat_le, length-append}
use Rattle.std.specs.Prelude.{◌==◌}
use Rattle.std.specs.List.{slice_split, onto_first, position_or_len, before_first, after_first, AllByRecursion, list_all, count_by}
use Rattle.std.specs.Str.{IsUtf8, is_utf8}
use Rattle.std.proofs.lemmas.Bool.{eqb-true, leb-true}
use Rattle.std.proofs.lemmas.List.Sums.{passes_at_first}
use Rattle.std.proofs.lemmas.List.Splits.{slice_split_first, slice_split-cons_no, slice_split-cons_yes, length-slice_split}
use Rattle.std.proofs.Math.Utf8.{encode}
use Rattle.std.proofs.lemmas.Str.{IsUtf8-from_is_utf8, is_utf8-from_IsUtf8, IsUtf8-take, IsUtf8-drop, IsCharBoundary-before_ascii, IsCharBoundary-after_ascii, length-encode, len_utf8_bounds}
use Rattle.text_pieces.specs.Lines.{is_blank, placed, fields_from}
use Rattle.text_pieces.specs.Escapes.{character_of, joined, unescaped_from, unescaped, is_text_byte, text_of}
use Rattle.text_pieces.proofs.FieldSteps.{split_none}
use Rattle.text_pieces.proofs.NumberLaw.{both_true}
use Rattle.live_model.specs.Rules.{is_category, is_category_byte}
use Rattle.live_model.proofs.CanonicalBytes.{ascii_utf8}

pub seen_text : (bytes : List ℕ) → IsUtf8 bytes → is_utf8 bytes ≡ true
seen_text bytes utf8 = is_utf8-from_IsUtf8 bytes utf8

pub seen_other : (bytes : List ℕ) → ¬ (IsUtf8 bytes) → is_utf8 bytes ≡ false
seen_other bytes other = one (is_utf8 bytes) refl
  where
    one : (b : Bool) → is_utf8 bytes ≡ b → b ≡ false
    one true e = absurd (other (IsUtf8-from_is_utf8 bytes e))
    one false e = refl

-- a category is ASCII
pub category_text : (bytes : List ℕ) → ¬ (IsUtf8 bytes) → is_category bytes ≡ true → ⊥
category_text bytes other is = other (ascii_utf8 bytes (low bytes (both_true _ _ is).0))
  where
    low_byte : (c : ℕ) → is_category_byte c ≡ true → c < 128
    low_byte c e = one (nat_le c 122) (nat_le c 57) (eqb c 95) refl refl refl e
      where
        one : (a b d : Bool) → nat_le c 122 ≡ a → nat_le c 57 ≡ b → eqb c 95 ≡ d → ((nat_le 97 c && a) || ((nat_le 48 c && b) || d)) ≡ true → c < 128
        one true b d p q r e = let le = leb-true c 122 p in omega arith
        one false true d p q r e = let le = leb-true c 57 q in omega arith
        one false false true p q r e = let is = eqb-true c 95 r in omega arith
        one false false false p q r e = absurd (none (nat_le 97 c) (nat_le 48 c) e)
          where
            none : (x y : Bool) → ((x && false) || ((y && false) || false)) ≡ true → ⊥
            none true true e = cc
            none true false e = cc
            none false true e = cc
            none false false e = cc

    low : (bs : List ℕ) → list_all is_category_byte bs ≡ true → AllByRecursion (λ b. b < 128) bs
    low [] e = tt
    low (b ∷ bs) e = let both = both_true _ _ e in (low_byte b both.0, low bs both.1)

-- Fields.

abbrev pub AreTexts : List (ℕ × List ℕ) → Type 0
AreTexts fs = AllByRecursion (λ f. IsTrue (is_utf8 f.1)) fs

blank_ascii : (c : ℕ) → is_blank c ≡ true → c < 128
blank_ascii c e = one (eqb c 32) (eqb c 9) refl refl e
  where
    one : (a b : Bool) → eqb c 32 ≡ a → eqb c 9 ≡ b → (a || b) ≡ true → c < 128
    one true b p q e = let is : c ≡ 32 = eqb-true c 32 p in omega arith
    one false true p q e = let is : c ≡ 9 = eqb-true c 9 q in omega arith
    one false false p q e = absurd (cc)

-- a byte that passes, or none
by_place : (p : ℕ → Bool) (bytes : List ℕ) → (position_or_len p bytes < length bytes) ⊎ (position_or_len p bytes ≡ length bytes)
by_place p [] = inr refl
by_place p (b ∷ bs) = one (p b) (by_place p bs)
  where
    one : (t : Bool) → (position_or_len p bs < length bs) ⊎ (position_or_len p bs ≡ length bs)
        → (cond (not t) (1 + position_or_len p bs) 0 < length (b ∷ bs)) ⊎ (cond (not t) (1 + position_or_len p bs) 0 ≡ length (b ∷ bs))
    one true h = inl (omega arith)
    one false (inl some) = inl (omega arith)
    one false (inr none) = inr (omega arith)

-- the pieces between blanks
pieces_are_utf8 : (most : ℕ) (bytes : List ℕ) → length bytes ≤ most → IsUtf8 bytes → AllByRecursion IsUtf8 (slice_split is_blank bytes)
pieces_are_utf8 zero bytes short utf8 = subst (AllByRecursion IsUtf8) (sym (split_none is_blank bytes (none bytes short))) (utf8, tt)
  where
    none : (xs : List ℕ) → length xs ≤ 0 → position_or_len is_blank xs ≡ length xs
    none [] e = refl
    none (x ∷ xs) e = absurd (omega arith)
pieces_are_utf8 (suc most) bytes short utf8 = one (by_place is_blank bytes) (pieces_are_utf8 most)
  where
    one : (position_or_len is_blank bytes < length bytes) ⊎ (position_or_len is_blank bytes ≡ length bytes)
        → ((rest : List ℕ) → length rest ≤ most → IsUtf8 rest → AllByRecursion IsUtf8 (slice_split is_blank rest))
        → AllByRecursion IsUtf8 (slice_split is_blank bytes)
    one (inr none) again = subst (AllByRecursion IsUtf8) (sym (split_none is_blank bytes none)) (utf8, tt)
    one (inl some) again =
        let blank : get_or bytes (position_or_len is_blank bytes) 0 < 128 = blank_ascii _ (passes_at_first is_blank bytes 0 some) in
        let long = length-drop (position_or_len is_blank bytes + 1) bytes in
        let first : IsUtf8 (before_first is_blank bytes) = IsUtf8-take bytes (position_or_len is_blank bytes) utf8 (IsCharBoundary-before_ascii bytes (position_or_len is_blank bytes) some blank) in
        let last : IsUtf8 (after_first is_blank bytes) = IsUtf8-drop bytes (position_or_len is_blank bytes + 1) utf8 (IsCharBoundary-after_ascii bytes (position_or_len is_blank bytes) utf8 some blank) in
        subst (AllByRecursion IsUtf8) (sym (slice_split_first is_blank bytes 0 some)) (first, again (after_first is_blank bytes) (omega arith) last)

placed_are_texts : (at : ℕ) (pieces : List (List ℕ)) → AllByRecursion IsUtf8 pieces → AreTexts (placed at pieces)
placed_are_texts at [] all = tt
placed_are_texts at (piece ∷ pieces) all = (true_is (is_utf8-from_IsUtf8 piece all.0), placed_are_texts (at + (length piece + 1)) pieces all.1)
  where
    true_is : {b : Bool} → b ≡ true → IsTrue b
    true_is e = e

kept_are_texts : (q : ℕ × List ℕ → Bool) (fs : List (ℕ × List ℕ)) → AreTexts fs → AreTexts (filter q fs)
kept_are_texts q [] all = tt
kept_are_texts q (f ∷ fs) all =
    elim (q f) as (λ b. AreTexts (cond b (f ∷ filter q fs) (filter q fs))) [
      | true ↦ (all.0, kept_are_texts q fs all.1)
      | false ↦ kept_are_texts q fs all.1
    ]

-- the fields of UTF-8 bytes are UTF-8
pub fields_are_texts : (at : ℕ) (bytes : List ℕ) → is_utf8 bytes ≡ true → AreTexts (fields_from at bytes)
unfolding fields_from
fields_are_texts at bytes utf8 =
    kept_are_texts (λ f. not (eqb (length f.1) 0)) (placed at (slice_split is_blank bytes))
    (placed_are_texts at (slice_split is_blank bytes) (pieces_are_utf8 (length bytes) bytes (omega arith) (IsUtf8-from_is_utf8 bytes utf8)))

-- What a field spells.

-- a text with a bad escape is none
pub no_text : (bytes : List ℕ) → unescaped bytes ≡ None → text_of bytes ≡ None
unfolding text_of
no_text bytes e = grind arith

abbrev is_percent : ℕ → Bool
is_percent c = c == 37

joined_some : (piece : List ℕ) (code : Option ℕ) (rest : Option (List ℕ)) (t : List ℕ) → ((c : ℕ) (more : List ℕ) → piece ++ encode c ++ more ≢ []) → joined piece code rest ≡ Some t → t ≢ []
joined_some piece None rest t some e = absurd (cc)
joined_some piece (Some c) None t some e = absurd (cc)
joined_some piece (Some c) (Some more) t some e =
    let same : piece ++ encode c ++ more ≡ t = cc in
    λ none. some c more (same ∙ none)

-- behind a first byte that is no percent sign
behind_plain : (c : ℕ) (pieces : List (List ℕ)) (t : List ℕ) → unescaped_from (onto_first c pieces) ≡ Some t → t ≢ []
behind_plain c [] t e = λ none. cc
behind_plain c (piece ∷ []) t e = λ none. cc
behind_plain c (piece ∷ code ∷ rest) t e = joined_some (c ∷ piece) (character_of code) (unescaped_from rest) t (λ x more none. cc) e

encode_some : (c : ℕ) (more : List ℕ) → [] ++ encode c ++ more ≢ []
encode_some c more none =
    let long = length-encode c in
    let some = (len_utf8_bounds c).0 in
    let all : length (encode c ++ more) ≡ 0 = ap length none in
    let sum = length-append (encode c) more in
    omega arith

behind_percent : (bytes : List ℕ) (t : List ℕ) → unescaped_from ([] ∷ slice_split is_percent bytes) ≡ Some t → t ≢ []
behind_percent bytes t e = one (slice_split is_percent bytes) (length-slice_split is_percent bytes) e
  where
    one : (pieces : List (List ℕ)) → length pieces ≡ count_by is_percent bytes + 1 → unescaped_from ([] ∷ pieces) ≡ Some t → t ≢ []
    one [] long e = absurd (omega arith)
    one (code ∷ rest) long e = joined_some [] (character_of code) (unescaped_from rest) t encode_some e

unescaped_some : (bytes t : List ℕ) → 0 < length bytes → unescaped bytes ≡ Some t → t ≢ []
unfolding unescaped
unescaped_some [] t some e = absurd (omega arith)
unescaped_some (c ∷ cs) t some e = one (is_percent c) refl
  where
    one : (b : Bool) → is_percent c ≡ b → t ≢ []
    one true is = behind_percent cs t (sym (ap unescaped_from (slice_split-cons_yes is_percent c cs is)) ∙ e)
    one false is = behind_plain c (slice_split is_percent cs) t (sym (ap unescaped_from (slice_split-cons_no is_percent c cs is)) ∙ e)

-- a field spells a text that has a byte
pub text_some : (bytes t : List ℕ) → 0 < length bytes → text_of bytes ≡ Some t → t ≢ []
unfolding text_of
text_some bytes t some e = one (list_all is_text_byte bytes) e
  where
    one : (b : Bool) → cond b (unescaped bytes) None ≡ Some t → t ≢ []
    one true e = unescaped_some bytes t some e
    one false e = absurd (cc)
