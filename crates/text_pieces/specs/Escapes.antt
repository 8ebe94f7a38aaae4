-- Texts in which a character may stand as its code between percent signs.
use Rattle.std.specs.Prelude.{ℕ, ◌+◌, ◌*◌, ◌/◌, ◌%◌, List, [], ◌∷◌, ◌++◌, length, Bool, ◌&&◌, ◌||◌, ◌==◌, not, nat_le, nat_lt, Option, Some, None, if◌then◌else◌, encode_utf8}
use Rattle.std.specs.Char.{digit_value}
use Rattle.std.specs.List.{list_all, slice_split, flat_map}
use Rattle.std.proofs.Math.Utf8.{scalar}

-- What a text spells.

-- `0` to `9`, `a` to `f` and `A` to `F`
abbrev pub is_hexadecimal : ℕ → Bool
is_hexadecimal c = nat_lt (digit_value c) 16

abbrev pub hexadecimal_after : ℕ → List ℕ → ℕ
hexadecimal_after n [] = n
hexadecimal_after n (d ∷ ds) = hexadecimal_after (16 * n + digit_value d) ds

abbrev pub are_hexadecimals : List ℕ → Bool
are_hexadecimals ds = list_all is_hexadecimal ds && (nat_le 1 (length ds) && nat_le (length ds) 6)

-- the character whose code 1 to 6 hexadecimal digits spell
unfoldable pub character_of : List ℕ → Option ℕ
character_of ds = if are_hexadecimals ds && scalar (hexadecimal_after 0 ds) then Some (hexadecimal_after 0 ds) else None

-- a piece, the character behind it, and the rest
abbrev pub joined : List ℕ → Option ℕ → Option (List ℕ) → Option (List ℕ)
joined piece (Some c) (Some rest) = Some (piece ++ encode_utf8 c ++ rest)
joined piece c rest = None

-- of pieces parted by percent signs every second one is a code
abbrev pub unescaped_from : List (List ℕ) → Option (List ℕ)
unescaped_from [] = None
unescaped_from (piece ∷ []) = Some piece
unescaped_from (piece ∷ code ∷ rest) = joined piece (character_of code) (unescaped_from rest)

-- the bytes with each escape replaced by its character; none where an escape is bad
unfoldable pub unescaped : List ℕ → Option (List ℕ)
unescaped bytes = unescaped_from (slice_split (λ c. c == 37) bytes)

-- a byte of a plain character or of an escape: all but space, tab, line feed, `,` and `=`
abbrev pub is_text_byte : ℕ → Bool
is_text_byte c = not (c == 32) && (not (c == 9) && (not (c == 10) && (not (c == 44) && not (c == 61))))

-- the text that an escaped text spells
unfoldable pub text_of : List ℕ → Option (List ℕ)
text_of bytes = if list_all is_text_byte bytes then unescaped bytes else None

-- The canonical spelling.

-- a hexadecimal digit in lower case
abbrev pub hexadecimal_digit : ℕ → ℕ
hexadecimal_digit n = if nat_lt n 10 then 48 + n else 87 + n

-- below `!`, the delete character, and `%`, `,`, `=` and `@`
abbrev pub needs_escape : ℕ → Bool
needs_escape c = nat_lt c 33 || ((c == 127) || ((c == 37) || ((c == 44) || ((c == 61) || (c == 64)))))

abbrev pub escaped_byte : ℕ → List ℕ
escaped_byte c = if needs_escape c then 37 ∷ hexadecimal_digit (c / 16) ∷ hexadecimal_digit (c % 16) ∷ 37 ∷ [] else c ∷ []

-- each character as itself or as an escape of two digits
unfoldable pub escaped : List ℕ → List ℕ
escaped text = flat_map escaped_byte text
