-- A number that is printed is read back.
use Rattle.std.proofs.Common.{◌≡◌, ℕ, ◌+◌, ◌*◌, ◌-◌, ◌<◌, ◌≤◌, ◌^◌, Bool, true, false, List, [], ◌∷◌, ◌++◌, length, refl, ap, arith, suc, Some}
use Rattle.std.specs.Prelude.{◌&&◌, nat_le, ℤ, pos, negsuc, unsigned_abs}
use Rattle.std.specs.List.{list_all}
use Rattle.std.specs.Fmt.{decimal as printed, signed_decimal}
use Rattle.std.specs.Option.{option_map}
use Rattle.std.proofs.lemmas.List.{append-nil}
use Rattle.std.proofs.lemmas.Bool.{le-leb, leb-true, ne_eqb}
use Rattle.std.proofs.lemmas.Str.Parse.{IsNumeralModel, numerals_by_fold}
use Rattle.std.proofs.lemmas.Fmt.{digits_decimal, digits_value-decimal, length-decimal-le, decimal_nonempty}
use Rattle.std.specs.Int.{IsInRange}
use Rattle.text_pieces.specs.Numbers.{is_digit, decimal_after, decimal, number_of, signed, has_minus, id_of}

pub both_true : (a b : Bool) → (a && b) ≡ true → (a ≡ true) × (b ≡ true)
both_true true b e = (refl, e)
both_true false b e = cc

AreDigits : List ℕ → Type 0
AreDigits ds = list_all is_digit ds ≡ true

own : IsNumeralModel AreDigits (decimal_after 0)
unfolding AreDigits
own = numerals_by_fold AreDigits (record { empty = refl; parts = λ c cs h. parts c cs h; more = λ c cs range h. rw (le-leb 48 c range.0, le-leb c 57 range.1) h }) decimal_after
    (record { empty = λ n. refl; more = λ n c cs range. let e : 10 * n + (c - 48) ≡ n * 10 + (c - 48) = omega arith in ap (λ m. decimal_after m cs) e })
  where
    parts : (c : ℕ) (cs : List ℕ) → (is_digit c && list_all is_digit cs) ≡ true → IsInRange 48 57 c × (list_all is_digit cs ≡ true)
    parts c cs h =
        let both = both_true (is_digit c) _ h in
        let range = both_true (nat_le 48 c) (nat_le c 57) both.0 in
        ((leb-true 48 c range.0, leb-true c 57 range.1), both.1)

-- what is printed is digits, at least one, with the number as their value
pub record IsPrinted (n : ℕ) : Type 0 where
  pub digits : list_all is_digit (printed n) ≡ true
  pub some : 0 < length (printed n)
  pub value : decimal (printed n) ≡ n

pub printed_is : (n : ℕ) → n < 2 ^ 64 → IsPrinted n
unfolding AreDigits
printed_is n fits = record { digits = digits_decimal own n fits; some = decimal_nonempty n fits; value = digits_value-decimal own n fits }

-- A number that is printed spells itself.
pub number_of-printed : (most top n : ℕ) → 0 < most → n < 10 ^ most → n < 2 ^ 64 → n ≤ top → number_of most top (printed n) ≡ Some n
unfolding number_of
number_of-printed most top n some few fits low =
    let is = printed_is n fits in
    let short : nat_le (length (printed n)) most ≡ true = le-leb _ _ (length-decimal-le most n some few fits) in
    let long : nat_le 1 (length (printed n)) ≡ true = le-leb _ _ is.some in
    rw (is.digits, short, long, is.value, le-leb n top low) refl

-- digits do not begin with a minus, whatever stands behind them
pub has_minus-digits : (ds rest : List ℕ) → list_all is_digit ds ≡ true → 0 < length ds → has_minus (ds ++ rest) ≡ false
has_minus-digits [] rest h some = absurd (omega arith)
has_minus-digits (c ∷ cs) rest h some =
    let first = both_true (is_digit c) (list_all is_digit cs) h in
    let low = leb-true 48 c (both_true (nat_le 48 c) (nat_le c 57) first.0).0 in
    ne_eqb c 45 (λ e. omega arith)

-- An id that is printed spells itself.
pub id_of-printed : (z : ℤ) → unsigned_abs z ≤ 281474976710656 → id_of (signed_decimal z) ≡ Some z
unfolding id_of
id_of-printed (pos n) low =
    let is = printed_is n (omega arith) in
    let none : has_minus (printed n) ≡ false = rw append-nil at (has_minus-digits (printed n) [] is.digits is.some) in
    rw none (ap (option_map (signed false)) (number_of-printed 15 281474976710656 n (omega arith) (omega arith) (omega arith) low))
id_of-printed (negsuc n) low = ap (option_map (signed true)) (number_of-printed 15 281474976710656 (suc n) (omega arith) (omega arith) (omega arith) low)
