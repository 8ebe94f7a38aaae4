-- Coordinates in degrees, counted in units of the seventh place.
use Rattle.std.specs.Prelude.{ℕ, ◌+◌, ◌-◌, ◌/◌, ◌%◌, List, [], ◌∷◌, ◌++◌, length, take, Bool, ◌&&◌, ◌||◌, nat_le, ◌==◌, Option, Some, None, if◌then◌else◌, ℤ, pos, negsuc, replicate, unsigned_abs}
use Rattle.std.specs.Option.{option_map}
use Rattle.std.specs.List.{before_first, after_first, suffix_len}
use Rattle.std.specs.Fmt.{decimal as printed}
use Rattle.text_pieces.specs.Numbers.{are_digits, decimal, has_minus, without_minus, signed}

-- What a text spells.

-- the digits before the point, or all where there is none
abbrev pub whole_part : List ℕ → List ℕ
whole_part bytes = before_first (λ c. c == 46) bytes

abbrev pub fraction_part : List ℕ → List ℕ
fraction_part bytes = after_first (λ c. c == 46) bytes

-- 1 to 3 digits, and then nothing, or a point and 1 to 7 digits
abbrev pub is_magnitude : List ℕ → Bool
is_magnitude bytes = are_digits 3 (whole_part bytes) && ((length (whole_part bytes) == length bytes) || are_digits 7 (fraction_part bytes))

-- the fraction is filled up with zeros to seven digits
abbrev pub magnitude : List ℕ → ℕ
magnitude bytes = decimal (whole_part bytes ++ fraction_part bytes ++ replicate (7 - length (fraction_part bytes)) 48)

unfoldable pub magnitude_of : ℕ → List ℕ → Option ℕ
magnitude_of most bytes = if is_magnitude bytes && nat_le (magnitude bytes) most then Some (magnitude bytes) else None

-- a minus or none, and a magnitude of at most `most`
unfoldable pub degrees_of : ℕ → List ℕ → Option ℤ
degrees_of most bytes = option_map (signed (has_minus bytes)) (magnitude_of most (without_minus bytes))

-- the same, where `most` may be below zero and then allows none
abbrev pub degrees_within : ℤ → List ℕ → Option ℤ
degrees_within (pos most) bytes = degrees_of most bytes
degrees_within (negsuc n) bytes = None

-- The canonical spelling.

abbrev pub seven_digits : ℕ → List ℕ
seven_digits n =
    (48 + n / 1000000 % 10) ∷ (48 + n / 100000 % 10) ∷ (48 + n / 10000 % 10) ∷ (48 + n / 1000 % 10) ∷ (48 + n / 100 % 10) ∷ (48 + n / 10 % 10) ∷ (48 + n % 10) ∷ []

-- without the zeros at the end
abbrev pub trimmed : List ℕ → List ℕ
trimmed ds = take (length ds - suffix_len (λ d. d == 48) ds) ds

-- nothing, or a point and the fraction
abbrev pub fraction_text : ℕ → List ℕ
fraction_text n = if n == 0 then [] else 46 ∷ trimmed (seven_digits n)

unfoldable pub magnitude_text : ℕ → List ℕ
magnitude_text n = printed (n / 10000000) ++ fraction_text (n % 10000000)

-- a minus stands before negative values alone
abbrev pub minus_text : ℤ → List ℕ
minus_text (pos n) = []
minus_text (negsuc n) = 45 ∷ []

unfoldable pub degrees_text : ℤ → List ℕ
degrees_text z = minus_text z ++ magnitude_text (unsigned_abs z)
