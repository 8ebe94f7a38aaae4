-- Numbers as decimal digits.
use Rattle.std.specs.Prelude.{ℕ, ◌+◌, ◌-◌, ◌*◌, List, [], ◌∷◌, length, drop, Bool, false, ◌&&◌, ◌==◌, nat_le, Option, Some, None, if◌then◌else◌, ℤ, pos, neg_ℤ}
use Rattle.std.specs.List.{list_all}
use Rattle.std.specs.Option.{option_map}

abbrev pub is_digit : ℕ → Bool
is_digit c = nat_le 48 c && nat_le c 57

-- the number that digits make behind another number
abbrev pub decimal_after : ℕ → List ℕ → ℕ
decimal_after n [] = n
decimal_after n (d ∷ ds) = decimal_after (10 * n + (d - 48)) ds

abbrev pub decimal : List ℕ → ℕ
decimal ds = decimal_after 0 ds

-- 1 to `most` digits
abbrev pub are_digits : ℕ → List ℕ → Bool
are_digits most ds = list_all is_digit ds && (nat_le 1 (length ds) && nat_le (length ds) most)

-- the number that 1 to `most` digits spell, where it is at most `top`
unfoldable pub number_of : ℕ → ℕ → List ℕ → Option ℕ
number_of most top ds = if are_digits most ds && nat_le (decimal ds) top then Some (decimal ds) else None

-- whether the first byte is a minus
abbrev pub has_minus : List ℕ → Bool
has_minus [] = false
has_minus (c ∷ cs) = c == 45

-- the bytes behind a minus, or all of them where there is none
abbrev pub without_minus : List ℕ → List ℕ
without_minus bytes = if has_minus bytes then drop 1 bytes else bytes

abbrev pub signed : Bool → ℕ → ℤ
signed minus n = if minus then neg_ℤ (pos n) else pos n

-- the number of an object: a minus or none, and 1 to 15 digits, of magnitude at most 2^48
unfoldable pub id_of : List ℕ → Option ℤ
id_of bytes = option_map (signed (has_minus bytes)) (number_of 15 281474976710656 (without_minus bytes))
