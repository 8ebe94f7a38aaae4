-- Coordinates whose digits are read once.
use Rattle.std.proofs.Common.{◌≡◌, Some, None, ℕ, ◌+◌, ◌-◌, ◌*◌, ◌^◌, ◌<◌, ◌≤◌, ◌&&◌, ◌||◌, Bool, true, false, cond, nat_le, eqb, List, [], ◌∷◌, ◌++◌, length, drop, refl, sym, ap, ◌∙◌, append-nil, arith, suc, one-add}
use Rattle.std.specs.Prelude.{◌==◌}
use Rattle.std.specs.Option.{option_map}
use Rattle.std.specs.List.{position_or_len}
use Rattle.std.proofs.lemmas.Bool.{ne_eqb, eq-eqb, eqb-true, le-leb}
use Rattle.text_pieces.specs.Numbers.{is_digit, are_digits, decimal_after, has_minus, without_minus, signed}
use Rattle.text_pieces.specs.Coordinates.{whole_part, fraction_part, is_magnitude, magnitude, magnitude_of, degrees_of}
use Rattle.text_pieces.proofs.CoordinateSteps.{magnitude_is}
use Rattle.text_pieces.specs.Lines.{is_blank}
use Rattle.opl_rows.specs.Fronts.{front, back, is_end, digits_of, behind_digits, point_text, behind_point, magnitude_text, behind_magnitude, behind_degrees}
use Rattle.opl_rows.proofs.Ends.{digit_solid, digits_front, digits_back, all_digits, minus_first}

digit_no_point : (c : ℕ) → is_digit c ≡ true → eqb c 46 ≡ false
digit_no_point c e = ne_eqb c 46 (λ is. no c e is)
  where
    no : (c : ℕ) → is_digit c ≡ true → c ≡ 46 → ⊥
    no c h e = grind arith

abbrev is_point : ℕ → Bool
is_point c = c == 46

-- the first point of digits and more
whole_is : (bytes more : List ℕ) → whole_part (digits_of bytes ++ 46 ∷ more) ≡ digits_of bytes
whole_is [] more = refl
whole_is (c ∷ cs) more =
    elim (is_digit c) as (λ d. is_digit c ≡ d → whole_part (cond d (c ∷ digits_of cs) [] ++ 46 ∷ more) ≡ cond d (c ∷ digits_of cs) []) [
      | true ↦ λ h. rw (digit_no_point c h, one-add (position_or_len is_point (digits_of cs ++ 46 ∷ more))) (ap (λ x. c ∷ x) (whole_is cs more))
      | false ↦ λ h. refl
    ] refl

fraction_is : (bytes more : List ℕ) → fraction_part (digits_of bytes ++ 46 ∷ more) ≡ more
fraction_is [] more = refl
fraction_is (c ∷ cs) more =
    elim (is_digit c) as (λ d. is_digit c ≡ d → fraction_part (cond d (c ∷ digits_of cs) [] ++ 46 ∷ more) ≡ more) [
      | true ↦ λ h.
          let past : 1 + position_or_len is_point (digits_of cs ++ 46 ∷ more) + 1 ≡ suc (position_or_len is_point (digits_of cs ++ 46 ∷ more) + 1) = omega arith in
          rw (digit_no_point c h, past) (fraction_is cs more)
      | false ↦ λ h. refl
    ] refl

whole_alone : (bytes : List ℕ) → whole_part (digits_of bytes) ≡ digits_of bytes
whole_alone [] = refl
whole_alone (c ∷ cs) =
    elim (is_digit c) as (λ d. is_digit c ≡ d → whole_part (cond d (c ∷ digits_of cs) []) ≡ cond d (c ∷ digits_of cs) []) [
      | true ↦ λ h. rw (digit_no_point c h, one-add (position_or_len is_point (digits_of cs))) (ap (λ x. c ∷ x) (whole_alone cs))
      | false ↦ λ h. refl
    ] refl

fraction_alone : (bytes : List ℕ) → fraction_part (digits_of bytes) ≡ []
fraction_alone [] = refl
fraction_alone (c ∷ cs) =
    elim (is_digit c) as (λ d. is_digit c ≡ d → fraction_part (cond d (c ∷ digits_of cs) []) ≡ []) [
      | true ↦ λ h.
          let past : 1 + position_or_len is_point (digits_of cs) + 1 ≡ suc (position_or_len is_point (digits_of cs) + 1) = omega arith in
          rw (digit_no_point c h, past) (fraction_alone cs)
      | false ↦ λ h. refl
    ] refl

-- 1 to `most` digits
few_digits : (most : ℕ) (bytes : List ℕ) → 0 < length (digits_of bytes) → length (digits_of bytes) ≤ most → are_digits most (digits_of bytes) ≡ true
few_digits most bytes some few = rw (all_digits bytes, le-leb 1 (length (digits_of bytes)) some, le-leb (length (digits_of bytes)) most few) refl

-- the magnitude of bytes whose parts are known
by_parts : (most n : ℕ) (bytes whole fraction : List ℕ) → whole_part bytes ≡ whole → fraction_part bytes ≡ fraction → are_digits 3 whole ≡ true
    → (eqb (length whole) (length bytes) || are_digits 7 fraction) ≡ true → n ≡ decimal_after (decimal_after 0 whole) fraction * 10 ^ (7 - length fraction) → n ≤ most → magnitude_of most bytes ≡ Some n
unfolding magnitude_of
by_parts most n bytes whole fraction w f digits form is near =
    let size : magnitude bytes ≡ n = magnitude_is bytes ∙ ap (λ x. decimal_after (decimal_after 0 x) (fraction_part bytes) * 10 ^ (7 - length (fraction_part bytes))) w ∙ ap (λ x. decimal_after (decimal_after 0 whole) x * 10 ^ (7 - length x)) f ∙ sym is in
    let formed : is_magnitude bytes ≡ true = ap (λ x. are_digits 3 x && (eqb (length x) (length bytes) || are_digits 7 (fraction_part bytes))) w ∙ ap (λ x. are_digits 3 whole && (eqb (length whole) (length bytes) || are_digits 7 x)) f ∙ ap (λ b. b && (eqb (length whole) (length bytes) || are_digits 7 fraction)) digits ∙ form in
    ap (λ b. cond (b && nat_le (magnitude bytes) most) (Some (magnitude bytes)) None) formed ∙ ap (λ m. cond (nat_le m most) (Some m) None) size ∙ ap (λ b. cond b (Some n) None) (le-leb n most near)

-- digits alone
pub magnitude_alone : (most n : ℕ) (bytes : List ℕ) → 0 < length (digits_of bytes) → length (digits_of bytes) ≤ 3 → n ≡ decimal_after 0 (digits_of bytes) * 10 ^ 7 → n ≤ most
    → magnitude_of most (digits_of bytes) ≡ Some n
magnitude_alone most n bytes some few is near =
    by_parts most n (digits_of bytes) (digits_of bytes) [] (whole_alone bytes) (fraction_alone bytes) (few_digits 3 bytes some few)
    (ap (λ b. b || are_digits 7 []) (eq-eqb (length (digits_of bytes)) (length (digits_of bytes)) refl)) is near

or_second : (b : Bool) → (b || true) ≡ true
or_second true = refl
or_second false = refl

-- digits, a point and digits
pub magnitude_parted : (most n : ℕ) (bytes more : List ℕ) → 0 < length (digits_of bytes) → length (digits_of bytes) ≤ 3 → 0 < length (digits_of more) → length (digits_of more) ≤ 7
    → n ≡ decimal_after (decimal_after 0 (digits_of bytes)) (digits_of more) * 10 ^ (7 - length (digits_of more)) → n ≤ most
    → magnitude_of most (digits_of bytes ++ 46 ∷ digits_of more) ≡ Some n
magnitude_parted most n bytes more some few some_more few_more is near =
    by_parts most n (digits_of bytes ++ 46 ∷ digits_of more) (digits_of bytes) (digits_of more) (whole_is bytes (digits_of more)) (fraction_is bytes (digits_of more)) (few_digits 3 bytes some few)
    (ap (λ b. eqb (length (digits_of bytes)) (length (digits_of bytes ++ 46 ∷ digits_of more)) || b) (few_digits 7 more some_more few_more) ∙ or_second (eqb (length (digits_of bytes)) (length (digits_of bytes ++ 46 ∷ digits_of more)))) is near

-- the magnitude of digits without a point
pub text_alone : (most n : ℕ) (bytes rest : List ℕ) → rest ≡ behind_digits bytes → point_text rest ≡ [] → 0 < length (digits_of bytes) → length (digits_of bytes) ≤ 3 → n ≡ decimal_after 0 (digits_of bytes) * 10 ^ 7 → n ≤ most
    → magnitude_of most (magnitude_text bytes) ≡ Some n
text_alone most n bytes rest is none some few n_is near = ap (λ x. magnitude_of most (digits_of bytes ++ x)) (ap point_text (sym is) ∙ none) ∙ ap (magnitude_of most) (append-nil (digits_of bytes)) ∙ magnitude_alone most n bytes some few n_is near

-- the magnitude of digits, a point and digits
pub text_parted : (most n : ℕ) (bytes rest more : List ℕ) → rest ≡ behind_digits bytes → rest ≡ 46 ∷ more → 0 < length (digits_of bytes) → length (digits_of bytes) ≤ 3 → 0 < length (digits_of more) → length (digits_of more) ≤ 7
    → n ≡ decimal_after (decimal_after 0 (digits_of bytes)) (digits_of more) * 10 ^ (7 - length (digits_of more)) → n ≤ most
    → magnitude_of most (magnitude_text bytes) ≡ Some n
text_parted most n bytes rest more is point some few some_more few_more n_is near = ap (λ x. magnitude_of most (digits_of bytes ++ x)) (ap point_text (sym is ∙ point)) ∙ magnitude_parted most n bytes more some few some_more few_more n_is near

-- Where a value ends.

point_front : (bytes : List ℕ) → is_end (behind_point bytes) ≡ true → front bytes ≡ point_text bytes
point_front [] e = refl
point_front (c ∷ cs) e =
    elim (eqb c 46) as (λ p. eqb c 46 ≡ p → is_end (cond p (behind_digits cs) (c ∷ cs)) ≡ true → cond (is_blank c) [] (c ∷ front cs) ≡ cond p (46 ∷ digits_of cs) []) [
      | true ↦ λ p h. rw (eqb-true c 46 p) (ap (λ x. 46 ∷ x) (digits_front cs h))
      | false ↦ λ p h. rw h refl
    ] refl e

point_back : (bytes : List ℕ) → is_end (behind_point bytes) ≡ true → back bytes ≡ behind_point bytes
point_back [] e = refl
point_back (c ∷ cs) e =
    elim (eqb c 46) as (λ p. eqb c 46 ≡ p → is_end (cond p (behind_digits cs) (c ∷ cs)) ≡ true → cond (is_blank c) (c ∷ cs) (back cs) ≡ cond p (behind_digits cs) (c ∷ cs)) [
      | true ↦ λ p h. rw (eqb-true c 46 p) (digits_back cs h)
      | false ↦ λ p h. rw h refl
    ] refl e

-- digits are no blanks
front_digits : (bytes : List ℕ) → front bytes ≡ digits_of bytes ++ front (behind_digits bytes)
front_digits [] = refl
front_digits (c ∷ cs) =
    elim (is_digit c) as (λ d. is_digit c ≡ d → cond (is_blank c) [] (c ∷ front cs) ≡ cond d (c ∷ digits_of cs) [] ++ front (cond d (behind_digits cs) (c ∷ cs))) [
      | true ↦ λ h. rw (digit_solid c h) (ap (λ x. c ∷ x) (front_digits cs))
      | false ↦ λ h. refl
    ] refl

back_digits : (bytes : List ℕ) → back bytes ≡ back (behind_digits bytes)
back_digits [] = refl
back_digits (c ∷ cs) =
    elim (is_digit c) as (λ d. is_digit c ≡ d → cond (is_blank c) (c ∷ cs) (back cs) ≡ back (cond d (behind_digits cs) (c ∷ cs))) [
      | true ↦ λ h. rw (digit_solid c h) (back_digits cs)
      | false ↦ λ h. refl
    ] refl

magnitude_front : (bytes : List ℕ) → is_end (behind_magnitude bytes) ≡ true → front bytes ≡ magnitude_text bytes
magnitude_front bytes e = front_digits bytes ∙ ap (λ x. digits_of bytes ++ x) (point_front (behind_digits bytes) e)

magnitude_back : (bytes : List ℕ) → is_end (behind_magnitude bytes) ≡ true → back bytes ≡ behind_magnitude bytes
magnitude_back bytes e = back_digits bytes ∙ point_back (behind_digits bytes) e

-- no magnitude begins with a minus
unsigned_magnitude : (bytes : List ℕ) → has_minus bytes ≡ false → has_minus (magnitude_text bytes) ≡ false
unsigned_magnitude [] e = refl
unsigned_magnitude (c ∷ cs) e =
    elim (is_digit c) as (λ d. has_minus (cond d (c ∷ digits_of cs) [] ++ point_text (cond d (behind_digits cs) (c ∷ cs))) ≡ false) [
      | true ↦ e
      | false ↦ elim (eqb c 46) as (λ p. has_minus (cond p (46 ∷ digits_of cs) []) ≡ false) [
        | true ↦ refl
        | false ↦ refl
      ]
    ]

-- a coordinate, by its sign and its magnitude
pub degrees_is : (most : ℕ) (bytes : List ℕ) (n : ℕ) → is_end (behind_degrees bytes) ≡ true → magnitude_of most (magnitude_text (without_minus bytes)) ≡ Some n → degrees_of most (front bytes) ≡ Some (signed (has_minus bytes) n)
unfolding degrees_of
degrees_is most bytes n e h =
    elim (has_minus bytes) as (λ m. has_minus bytes ≡ m → is_end (behind_magnitude (cond m (drop 1 bytes) bytes)) ≡ true → magnitude_of most (magnitude_text (cond m (drop 1 bytes) bytes)) ≡ Some n
    → option_map (signed (has_minus (front bytes))) (magnitude_of most (without_minus (front bytes))) ≡ Some (signed m n)) [
      | true ↦ λ m e h. rw (ap front (minus_first bytes m), magnitude_front (drop 1 bytes) e) (ap (option_map (signed true)) h)
      | false ↦ λ m e h. rw (magnitude_front bytes e, unsigned_magnitude bytes m) (ap (option_map (signed false)) h)
    ] refl e h

-- what stands behind a coordinate that ends its value
pub degrees_back : (bytes : List ℕ) → is_end (behind_degrees bytes) ≡ true → back bytes ≡ behind_degrees bytes
degrees_back bytes e =
    elim (has_minus bytes) as (λ m. has_minus bytes ≡ m → is_end (behind_magnitude (cond m (drop 1 bytes) bytes)) ≡ true → back bytes ≡ behind_magnitude (cond m (drop 1 bytes) bytes)) [
      | true ↦ λ m h. ap back (minus_first bytes m) ∙ magnitude_back (drop 1 bytes) h
      | false ↦ λ m h. magnitude_back bytes h
    ] refl e
