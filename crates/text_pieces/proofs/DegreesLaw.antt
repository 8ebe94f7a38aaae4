-- A coordinate that is written is read back.
use Rattle.std.proofs.Common.{◌≡◌, ℕ, ◌+◌, ◌*◌, ◌-◌, ◌/◌, ◌%◌, ◌<◌, ◌≤◌, Bool, true, false, cond, List, [], ◌∷◌, ◌++◌, length, take, drop, refl, sym, ap, ◌∙◌, append_assoc, arith, eqb, suc, replicate, Some}
use Rattle.std.specs.Prelude.{◌||◌, nat_le, ℤ, pos, negsuc, unsigned_abs}
use Rattle.std.specs.List.{list_all, position_or_len, suffix_len}
use Rattle.std.specs.Fmt.{decimal as printed}
use Rattle.std.specs.Option.{option_map}
use Rattle.std.proofs.lemmas.Bool.{le-leb, leb-true, ne_eqb, eq-eqb, eqb-true, eqb-false}
use Rattle.std.proofs.lemmas.Fmt.{length-decimal-le}
use Rattle.std.proofs.lemmas.List.{append-nil, take-append-drop, length-take-le}
use Rattle.std.proofs.lemmas.List.Folds.{list_all-append}
use Rattle.std.proofs.Math.Nat.{div-add-mod, div-div-eq-div-mul}
use Rattle.std.proofs.Math.ListN.{drop_of_length-le}
use Rattle.std.proofs.Math.Seq.{take-length, take-append_seam, drop-append-add}
use Rattle.text_pieces.specs.Numbers.{is_digit, are_digits, decimal, decimal_after, signed}
use Rattle.text_pieces.specs.Coordinates.{whole_part, fraction_part, magnitude_of, degrees_of, seven_digits, trimmed, fraction_text, magnitude_text, degrees_text}
use Rattle.text_pieces.proofs.NumberSteps.{decimal_after-append}
use Rattle.text_pieces.proofs.NumberLaw.{both_true, printed_is, has_minus-digits}
use Rattle.text_pieces.proofs.Trimming.{trimmed-filled}

abbrev is_point : ℕ → Bool
is_point c = eqb c 46

-- Seven digits.

digit_at : (a : ℕ) → a < 10 → is_digit (48 + a) ≡ true
digit_at a low = rw (le-leb 48 (48 + a) (omega arith), le-leb (48 + a) 57 (omega arith)) refl

seven_digits-are : (f : ℕ) → list_all is_digit (seven_digits f) ≡ true
seven_digits-are f =
    rw (digit_at (f / 1000000 % 10) (omega arith), digit_at (f / 100000 % 10) (omega arith), digit_at (f / 10000 % 10) (omega arith), digit_at (f / 1000 % 10) (omega arith), digit_at (f / 100 % 10) (omega arith), digit_at (f / 10 % 10) (omega arith), digit_at (f % 10) (omega arith)) refl

-- a number without its last digit, and that digit
last_digit : (f k : ℕ) → f / k ≡ 10 * (f / (k * 10)) + f / k % 10
last_digit f k = sym (div-add-mod (f / k) 10) ∙ ap (λ q. 10 * q + f / k % 10) (div-div-eq-div-mul f k 10)

decimal_after-seven : (w a b c d e f g : ℕ) → decimal_after w ((48 + a) ∷ (48 + b) ∷ (48 + c) ∷ (48 + d) ∷ (48 + e) ∷ (48 + f) ∷ (48 + g) ∷ []) ≡ 10 * (10 * (10 * (10 * (10 * (10 * (10 * w + a) + b) + c) + d) + e) + f) + g
decimal_after-seven w a b c d e f g =
    rw (back a, back b, back c, back d, back e, back f, back g) refl
  where
    back : (x : ℕ) → 48 + x - 48 ≡ x
    back x = omega arith

decimal_after-seven_digits : (w f : ℕ) → f < 10000000 → decimal_after w (seven_digits f) ≡ w * 10000000 + f
decimal_after-seven_digits w f low =
    let a = last_digit f 1000000 in
    let b = last_digit f 100000 in
    let c = last_digit f 10000 in
    let d = last_digit f 1000 in
    let e = last_digit f 100 in
    let g = last_digit f 10 in
    let h = div-add-mod f 10 in
    let none : f / 10000000 ≡ 0 = omega arith in
    decimal_after-seven w (f / 1000000 % 10) (f / 100000 % 10) (f / 10000 % 10) (f / 1000 % 10) (f / 100 % 10) (f / 10 % 10) (f % 10) ∙ omega arith

-- The parts of a written magnitude.

-- digits have no point
position_or_len-digits : (ds rest : List ℕ) → list_all is_digit ds ≡ true → position_or_len is_point (ds ++ rest) ≡ length ds + position_or_len is_point rest
position_or_len-digits [] rest h = omega arith
position_or_len-digits (c ∷ cs) rest h =
    let first = both_true (is_digit c) (list_all is_digit cs) h in
    let low = leb-true 48 c (both_true (nat_le 48 c) (nat_le c 57) first.0).0 in
    let other : is_point c ≡ false = ne_eqb c 46 (λ e. omega arith) in
    rw other (omega (arith, position_or_len-digits cs rest first.1))

or_true : (b : Bool) → (b || true) ≡ true
or_true true = refl
or_true false = refl

-- a magnitude by its parts
magnitude_from : (most n w : ℕ) (bytes whole fraction : List ℕ) → whole_part bytes ≡ whole → fraction_part bytes ≡ fraction
    → are_digits 3 whole ≡ true → (eqb (length whole) (length bytes) || are_digits 7 fraction) ≡ true → decimal whole ≡ w
    → decimal_after w (fraction ++ replicate (7 - length fraction) 48) ≡ n → n ≤ most → magnitude_of most bytes ≡ Some n
unfolding magnitude_of
magnitude_from most n w bytes whole fraction first second digits more value filled low =
    let all : decimal (whole ++ fraction ++ replicate (7 - length fraction) 48) ≡ n =
    ap (decimal_after 0) (append_assoc whole fraction (replicate (7 - length fraction) 48)) ∙ decimal_after-append 0 whole (fraction ++ replicate (7 - length fraction) 48) ∙ rw value filled in
    rw (first, second, digits, more, all, le-leb n most low) refl

three_digits : (w : ℕ) → w < 1000 → are_digits 3 (printed w) ≡ true
three_digits w small =
    let is = printed_is w (omega arith) in
    rw (is.digits, le-leb 1 (length (printed w)) is.some, le-leb (length (printed w)) 3 (length-decimal-le 3 w (omega arith) (omega arith) (omega arith))) refl

-- whole degrees
magnitude_whole : (most w : ℕ) → w < 1000 → w * 10000000 ≤ most → magnitude_of most (printed w) ≡ Some (w * 10000000)
magnitude_whole most w small low =
    let is = printed_is w (omega arith) in
    let none = rw append-nil at (position_or_len-digits (printed w) [] is.digits) in
    let place : position_or_len is_point (printed w) ≡ length (printed w) = omega (arith, none) in
    magnitude_from most (w * 10000000) w (printed w) (printed w) []
    (ap (λ n. take n (printed w)) place ∙ take-length (printed w))
    (ap (λ n. drop (n + 1) (printed w)) place ∙ drop_of_length-le (printed w) (omega arith))
    (three_digits w small) (rw (eq-eqb (length (printed w)) (length (printed w)) refl) refl) is.value (omega arith) low

-- a fraction that is not zero keeps a digit
kept_digit : (f : ℕ) (ds : List ℕ) → 0 < f → f < 10000000 → ds ++ replicate (7 - length ds) 48 ≡ seven_digits f → 0 < length ds
kept_digit f [] some short e =
    let zeros : 0 ≡ decimal_after 0 (seven_digits f) = ap (decimal_after 0) e in
    let value = decimal_after-seven_digits 0 f short in
    absurd (omega arith)
kept_digit f (d ∷ ds) some short e = omega arith

fraction_digits : (f : ℕ) → 0 < f → f < 10000000 → are_digits 7 (trimmed (seven_digits f)) ≡ true
fraction_digits f some short =
    let n = 7 - suffix_len (λ d. eqb d 48) (seven_digits f) in
    let within : n ≤ 7 = omega arith in
    let kept : length (trimmed (seven_digits f)) ≡ n = length-take-le n (seven_digits f) within in
    let all : list_all is_digit (take n (seven_digits f) ++ drop n (seven_digits f)) ≡ true = rw (take-append-drop n (seven_digits f)) (seven_digits-are f) in
    let front = both_true (list_all is_digit (take n (seven_digits f))) _ (sym (list_all-append is_digit (take n (seven_digits f)) (drop n (seven_digits f))) ∙ all) in
    let more : 0 < length (trimmed (seven_digits f)) = kept_digit f (trimmed (seven_digits f)) some short (trimmed-filled (seven_digits f)) in
    rw (front.0, le-leb 1 (length (trimmed (seven_digits f))) more, le-leb (length (trimmed (seven_digits f))) 7 (omega arith)) refl

-- degrees with a fraction
magnitude_parts : (most w f : ℕ) → w < 1000 → 0 < f → f < 10000000 → w * 10000000 + f ≤ most → magnitude_of most (printed w ++ (46 ∷ trimmed (seven_digits f))) ≡ Some (w * 10000000 + f)
magnitude_parts most w f small some short low =
    let is = printed_is w (omega arith) in
    let fraction = 46 ∷ trimmed (seven_digits f) in
    let cut = position_or_len-digits (printed w) fraction is.digits in
    let place : position_or_len is_point (printed w ++ fraction) ≡ length (printed w) = omega (arith, cut) in
    magnitude_from most (w * 10000000 + f) w (printed w ++ fraction) (printed w) (trimmed (seven_digits f))
    (ap (λ n. take n (printed w ++ fraction)) place ∙ take-append_seam (printed w) fraction)
    (ap (λ n. drop (n + 1) (printed w ++ fraction)) place ∙ drop-append-add (printed w) fraction 1)
    (three_digits w small) (rw (fraction_digits f some short) (or_true _)) is.value
    (ap (decimal_after w) (trimmed-filled (seven_digits f)) ∙ decimal_after-seven_digits w f short) low

magnitude_of-written : (most n : ℕ) → n ≤ most → n ≤ 1800000000 → magnitude_of most (magnitude_text n) ≡ Some n
unfolding magnitude_text
magnitude_of-written most n low high = one (eqb (n % 10000000) 0) refl
  where
    one : (b : Bool) → eqb (n % 10000000) 0 ≡ b → magnitude_of most (printed (n / 10000000) ++ cond b [] (46 ∷ trimmed (seven_digits (n % 10000000)))) ≡ Some n
    one true e =
        let none = eqb-true (n % 10000000) 0 e in
        let value : n / 10000000 * 10000000 ≡ n = omega arith in
        rw append-nil (magnitude_whole most (n / 10000000) (omega arith) (omega arith) ∙ ap Some value)
    one false e =
        let some = eqb-false (n % 10000000) 0 e in
        let value : n / 10000000 * 10000000 + n % 10000000 ≡ n = omega arith in
        magnitude_parts most (n / 10000000) (n % 10000000) (omega arith) (omega arith) (omega arith) (omega arith) ∙ ap Some value

-- A coordinate that is written spells itself.
pub degrees_of-written : (most : ℕ) (z : ℤ) → unsigned_abs z ≤ most → unsigned_abs z ≤ 1800000000 → degrees_of most (degrees_text z) ≡ Some z
unfolding degrees_of degrees_text magnitude_text
degrees_of-written most (pos n) low high =
    let is = printed_is (n / 10000000) (omega arith) in
    rw (has_minus-digits (printed (n / 10000000)) (fraction_text (n % 10000000)) is.digits is.some) (ap (option_map (signed false)) (magnitude_of-written most n low high))
degrees_of-written most (negsuc n) low high = ap (option_map (signed true)) (magnitude_of-written most (suc n) low high)
