-- The bytes of canonical lines: numbers and escaped texts hold no byte that parts a line, a list or an item.
use Rattle.std.proofs.Common.{◌≡◌, ◌≢◌, ℕ, ◌+◌, ◌/◌, ◌%◌, ◌<◌, ◌≤◌, ◌^◌, Bool, true, false, cond, List, [], ◌∷◌, ◌++◌, take, drop, refl, ap, arith, suc, eqb}
use Rattle.std.specs.Prelude.{◌||◌, ◌==◌, nat_le, nat_lt, ℤ, pos, negsuc, unsigned_abs, IsUtf8}
use Rattle.std.specs.List.{list_all, flat_map, AllByRecursion}
use Rattle.std.specs.Fmt.{decimal as printed, signed_decimal}
use Rattle.std.proofs.Math.Utf8.{encode, encodes, scalar, scalars, low_scalar}
use Rattle.std.proofs.lemmas.Bool.{ne_eqb, eqb-false, ltb-true, ltb-false, le-ltb, leb-true}
use Rattle.std.proofs.lemmas.Grind.{flat_map-append}
use Rattle.std.proofs.lemmas.List.Concat.{flat_map-cons}
use Rattle.std.proofs.lemmas.List.{take-append-drop}
use Rattle.std.proofs.lemmas.Str.{IsUtf8-append, IsUtf8-nil, IsUtf8-encode, encode_ascii}
use Rattle.text_pieces.specs.Numbers.{is_digit}
use Rattle.text_pieces.specs.Coordinates.{seven_digits, trimmed, fraction_text, magnitude_text, degrees_text}
use Rattle.text_pieces.specs.Escapes.{escaped, escaped_byte, needs_escape, hexadecimal_digit}
use Rattle.text_pieces.proofs.NumberLaw.{both_true, printed_is}

-- What holds of each item.

module _ {A : Type 0} (P : A → Type 0) where
  pub all_append : (xs ys : List A) → AllByRecursion P xs → AllByRecursion P ys → AllByRecursion P (xs ++ ys)
  all_append [] ys a b = b
  all_append (x ∷ xs) ys a b = (a.0, all_append xs ys a.1 b)

  pub all_front : (xs ys : List A) → AllByRecursion P (xs ++ ys) → AllByRecursion P xs
  all_front [] ys all = tt
  all_front (x ∷ xs) ys all = (all.0, all_front xs ys all.1)

  pub all_weaker : (Q : A → Type 0) → ((x : A) → P x → Q x) → (xs : List A) → AllByRecursion P xs → AllByRecursion Q xs
  all_weaker Q f [] all = tt
  all_weaker Q f (x ∷ xs) all = (f x all.0, all_weaker Q f xs all.1)

  pub all_flat_map : {B : Type 0} (g : B → List A) → ((b : B) → AllByRecursion P (g b)) → (bs : List B) → AllByRecursion P (flat_map g bs)
  all_flat_map g each [] = tt
  all_flat_map g each (b ∷ bs) = rw (flat_map-cons g b bs) (all_append (g b) (flat_map g bs) (each b) (all_flat_map g each bs))

-- Plain bytes.

-- no control byte, no space, and none of `,`, `=` and `@`
pub record IsPlain (c : ℕ) : Type 0 where
  pub visible : 33 ≤ c
  pub comma : c ≢ 44
  pub equals : c ≢ 61
  pub at_sign : c ≢ 64

abbrev pub ArePlain : List ℕ → Type 0
ArePlain bytes = AllByRecursion IsPlain bytes

-- Numbers are written with digits, a minus and a point, which stand from 45 to 57.

abbrev pub IsNumeral : ℕ → Type 0
IsNumeral c = (45 ≤ c) × (c ≤ 57)

abbrev pub AreNumerals : List ℕ → Type 0
AreNumerals bytes = AllByRecursion IsNumeral bytes

digits_numeral : (ds : List ℕ) → list_all is_digit ds ≡ true → AreNumerals ds
digits_numeral [] e = tt
digits_numeral (d ∷ ds) e =
    let both = both_true (is_digit d) (list_all is_digit ds) e in
    let range = both_true (nat_le 48 d) (nat_le d 57) both.0 in
    let low = leb-true 48 d range.0 in
    let high = leb-true d 57 range.1 in
    ((omega arith, omega arith), digits_numeral ds both.1)

pub printed_numeral : (n : ℕ) → n < 2 ^ 64 → AreNumerals (printed n)
printed_numeral n fits = digits_numeral (printed n) (printed_is n fits).digits

pub signed_numeral : (z : ℤ) → unsigned_abs z < 2 ^ 64 → AreNumerals (signed_decimal z)
signed_numeral (pos n) fits = printed_numeral n fits
signed_numeral (negsuc n) fits = ((omega arith, omega arith), printed_numeral (suc n) fits)

seven_numeral : (f : ℕ) → AreNumerals (seven_digits f)
seven_numeral f =
    (digit (f / 1000000 % 10) (omega arith), (digit (f / 100000 % 10) (omega arith), (digit (f / 10000 % 10) (omega arith), (digit (f / 1000 % 10) (omega arith), (digit (f / 100 % 10) (omega arith), (digit (f / 10 % 10) (omega arith), (digit (f % 10) (omega arith), tt)))))))
  where
    digit : (a : ℕ) → a < 10 → IsNumeral (48 + a)
    digit a low = (omega arith, omega arith)

fraction_numeral : (f : ℕ) → AreNumerals (fraction_text f)
fraction_numeral f =
    elim (eqb f 0) as (λ b. AreNumerals (cond b [] (46 ∷ trimmed (seven_digits f)))) [
      | true ↦ tt
      | false ↦ ((omega arith, omega arith), front _ (seven_digits f) (seven_numeral f))
    ]
  where
    front : (n : ℕ) (bytes : List ℕ) → AreNumerals bytes → AreNumerals (take n bytes)
    front n bytes all =
        let whole : AreNumerals (take n bytes ++ drop n bytes) = rw (take-append-drop n bytes) all in
        all_front IsNumeral (take n bytes) (drop n bytes) whole

magnitude_numeral : (n : ℕ) → n < 2 ^ 64 → AreNumerals (magnitude_text n)
unfolding magnitude_text
magnitude_numeral n fits = all_append IsNumeral (printed (n / 10000000)) (fraction_text (n % 10000000)) (printed_numeral (n / 10000000) (omega arith)) (fraction_numeral (n % 10000000))

pub degrees_numeral : (z : ℤ) → unsigned_abs z < 2 ^ 64 → AreNumerals (degrees_text z)
unfolding degrees_text
degrees_numeral (pos n) fits = magnitude_numeral n fits
degrees_numeral (negsuc n) fits = ((omega arith, omega arith), magnitude_numeral (suc n) fits)

pub numerals_plain : (bytes : List ℕ) → AreNumerals bytes → ArePlain bytes
numerals_plain bytes all = all_weaker IsNumeral IsPlain plain bytes all
  where
    plain : (c : ℕ) → IsNumeral c → IsPlain c
    plain c is = let low = is.0 in let high = is.1 in record { visible = omega arith; comma = λ e. omega arith; equals = λ e. omega arith; at_sign = λ e. omega arith }

-- Escaped texts.

none_true : (a b : Bool) → (a || b) ≡ false → (a ≡ false) × (b ≡ false)
none_true true b e = cc
none_true false b e = (refl, e)

-- a byte that stands as it is
kept_plain : (c : ℕ) → needs_escape c ≡ false → IsPlain c
kept_plain c e =
    let a = none_true (nat_lt c 33) _ e in
    let b = none_true (c == 127) _ a.1 in
    let d = none_true (c == 37) _ b.1 in
    let f = none_true (c == 44) _ d.1 in
    let g = none_true (c == 61) (c == 64) f.1 in
    record { visible = ltb-false c 33 a.0; comma = eqb-false c 44 f.0; equals = eqb-false c 61 g.0; at_sign = eqb-false c 64 g.1 }

hexadecimal_plain : (n : ℕ) → IsPlain (hexadecimal_digit n)
hexadecimal_plain n = one (nat_lt n 10) refl
  where
    one : (b : Bool) → nat_lt n 10 ≡ b → IsPlain (cond b (48 + n) (87 + n))
    one true e = let low = ltb-true n 10 e in record { visible = omega arith; comma = λ e. omega arith; equals = λ e. omega arith; at_sign = λ e. omega arith }
    one false e = let high = ltb-false n 10 e in record { visible = omega arith; comma = λ e. omega arith; equals = λ e. omega arith; at_sign = λ e. omega arith }

percent_plain : IsPlain 37
percent_plain = record { visible = omega arith; comma = λ e. omega arith; equals = λ e. omega arith; at_sign = λ e. omega arith }

escaped_byte_plain : (c : ℕ) → ArePlain (escaped_byte c)
escaped_byte_plain c = one (needs_escape c) refl
  where
    one : (b : Bool) → needs_escape c ≡ b → ArePlain (cond b (37 ∷ hexadecimal_digit (c / 16) ∷ hexadecimal_digit (c % 16) ∷ 37 ∷ []) (c ∷ []))
    one true e = (percent_plain, (hexadecimal_plain (c / 16), (hexadecimal_plain (c % 16), (percent_plain, tt))))
    one false e = (kept_plain c e, tt)

pub escaped_plain : (text : List ℕ) → ArePlain (escaped text)
unfolding escaped
escaped_plain text = all_flat_map IsPlain escaped_byte escaped_byte_plain text

-- UTF-8.

pub ascii_utf8 : (bytes : List ℕ) → AllByRecursion (λ b. b < 128) bytes → IsUtf8 bytes
ascii_utf8 [] all = IsUtf8-nil
ascii_utf8 (c ∷ cs) all =
    let low = all.0 in
    let first : IsUtf8 (c ∷ []) = (c ∷ [], (low_scalars c low, ap (λ bs. bs ++ []) (encode_ascii c low))) in
    IsUtf8-append (c ∷ []) cs first (ascii_utf8 cs all.1)
  where
    low_scalars : (c : ℕ) → c < 128 → scalars (c ∷ []) ≡ true
    low_scalars c low = rw (low_scalar c (omega arith)) refl

-- bytes from 128 on stay
high_kept : (c : ℕ) → 128 ≤ c → needs_escape c ≡ false
high_kept c high = rw (le-ltb c 33 (omega arith), ne_eqb c 127 (λ h. omega arith), ne_eqb c 37 (λ h. omega arith), ne_eqb c 44 (λ h. omega arith), ne_eqb c 61 (λ h. omega arith), ne_eqb c 64 (λ h. omega arith)) refl

high_escaped : (bytes : List ℕ) → AllByRecursion (λ b. 128 ≤ b) bytes → flat_map escaped_byte bytes ≡ bytes
high_escaped [] all = refl
high_escaped (c ∷ cs) all = rw (flat_map-cons escaped_byte c cs, high_kept c all.0) (ap (λ bs. c ∷ bs) (high_escaped cs all.1))

encode_high : (c : ℕ) → 128 ≤ c → AllByRecursion (λ b. 128 ≤ b) (encode c)
unfolding encode
encode_high c high = rw (le-ltb c 128 high) (two (nat_lt c 2048) (nat_lt c 65536))
  where
    two : (a b : Bool) → AllByRecursion (λ b. 128 ≤ b) (cond a ((192 + c / 64) ∷ (128 + c % 64) ∷ []) (cond b ((224 + c / 4096) ∷ (128 + c / 64 % 64) ∷ (128 + c % 64) ∷ []) ((240 + c / 262144) ∷ (128 + c / 4096 % 64) ∷ (128 + c / 64 % 64) ∷ (128 + c % 64) ∷ [])))
    two true b = (omega arith, (omega arith, tt))
    two false true = (omega arith, (omega arith, (omega arith, tt)))
    two false false = (omega arith, (omega arith, (omega arith, (omega arith, tt))))

hexadecimal_low : (n : ℕ) → n < 16 → hexadecimal_digit n < 128
hexadecimal_low n low =
    elim (nat_lt n 10) as (λ b. cond b (48 + n) (87 + n) < 128) [ true ↦ omega arith | false ↦ omega arith ]

escaped_byte_low : (c : ℕ) → c < 128 → AllByRecursion (λ b. b < 128) (escaped_byte c)
escaped_byte_low c low =
    elim (needs_escape c) as (λ b. AllByRecursion (λ b. b < 128) (cond b (37 ∷ hexadecimal_digit (c / 16) ∷ hexadecimal_digit (c % 16) ∷ 37 ∷ []) (c ∷ []))) [
      | true ↦ (omega arith, (hexadecimal_low (c / 16) (omega arith), (hexadecimal_low (c % 16) (omega arith), (omega arith, tt))))
      | false ↦ (low, tt)
    ]

character_utf8 : (c : ℕ) → scalar c ≡ true → IsUtf8 (flat_map escaped_byte (encode c))
character_utf8 c is = one (nat_lt c 128) refl
  where
    one : (b : Bool) → nat_lt c 128 ≡ b → IsUtf8 (flat_map escaped_byte (encode c))
    one true e =
        let low = ltb-true c 128 e in
        rw (encode_ascii c low, flat_map-cons escaped_byte c []) (ascii_utf8 (escaped_byte c ++ []) (all_append (λ b. b < 128) (escaped_byte c) [] (escaped_byte_low c low) tt))
    one false e =
        let high = ltb-false c 128 e in
        rw (high_escaped (encode c) (encode_high c high)) (IsUtf8-encode c is)

characters_utf8 : (cs : List ℕ) → scalars cs ≡ true → IsUtf8 (flat_map escaped_byte (encodes cs))
characters_utf8 [] is = IsUtf8-nil
characters_utf8 (c ∷ cs) is =
    let both = both_true (scalar c) (scalars cs) is in
    rw (flat_map-append escaped_byte (encode c) (encodes cs)) (IsUtf8-append (flat_map escaped_byte (encode c)) (flat_map escaped_byte (encodes cs)) (character_utf8 c both.0) (characters_utf8 cs both.1))

-- The canonical spelling of UTF-8 is UTF-8.
pub escaped_utf8 : (text : List ℕ) → IsUtf8 text → IsUtf8 (escaped text)
unfolding escaped
escaped_utf8 text is = rw (← is.1.1) (characters_utf8 is.0 is.1.0)
