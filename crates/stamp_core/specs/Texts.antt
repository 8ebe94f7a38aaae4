-- What text spells a civil hour: `YYYY-MM-DD-HH`.
use Rattle.std.specs.Prelude.{◌≡◌, ℕ, ◌+◌, ◌/◌, ◌%◌, ◌<◌, List, [], ◌∷◌, ◌++◌, slice_index}
use Rattle.stamp_core.specs.Hours.{CivilHour}

-- the two decimal digits of a number below a hundred; `0` has the code 48
abbrev pub two_digits : ℕ → List ℕ
two_digits n = (48 + n / 10) ∷ (48 + n % 10) ∷ []

-- year, month, day and hour, with a hyphen, of code 45, between them
abbrev pub text_of : CivilHour → List ℕ
text_of c =
    two_digits (c.year / 100) ++ two_digits (c.year % 100) ++ 45 ∷ two_digits c.month
    ++ 45 ∷ two_digits c.day ++ 45 ∷ two_digits c.hour

-- at that place of a text stand the two digits of n
abbrev pub IsPairAt : List ℕ → ℕ → ℕ → Type 0
IsPairAt text at n =
    (n < 100) × (slice_index text at ≡ 48 + n / 10) × (slice_index text (at + 1) ≡ 48 + n % 10)
