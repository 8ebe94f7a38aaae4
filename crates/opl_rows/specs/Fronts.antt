-- What stands at the front of bytes, and what stands behind it.
use Rattle.std.specs.Prelude.{ℕ, List, [], ◌∷◌, ◌++◌, drop, ◌==◌, ◌&&◌, not, Bool, true, if◌then◌else◌}
use Rattle.text_pieces.specs.Lines.{is_blank}
use Rattle.text_pieces.specs.Escapes.{is_text_byte}
use Rattle.text_pieces.specs.Numbers.{is_digit, has_minus, without_minus}

-- the bytes before the first blank
abbrev pub front : List ℕ → List ℕ
front [] = []
front (c ∷ cs) = if is_blank c then [] else c ∷ front cs

-- the bytes from the first blank on
abbrev pub back : List ℕ → List ℕ
back [] = []
back (c ∷ cs) = if is_blank c then c ∷ cs else back cs

-- nothing, or a blank and more
abbrev pub is_end : List ℕ → Bool
is_end [] = true
is_end (c ∷ cs) = is_blank c

-- the digits at the front
abbrev pub digits_of : List ℕ → List ℕ
digits_of [] = []
digits_of (c ∷ cs) = if is_digit c then c ∷ digits_of cs else []

-- the bytes from the first that is no digit on
abbrev pub behind_digits : List ℕ → List ℕ
behind_digits [] = []
behind_digits (c ∷ cs) = if is_digit c then behind_digits cs else c ∷ cs

-- an id at the front: its minus, if there is one, and its digits
abbrev pub id_text : List ℕ → List ℕ
id_text bytes = if has_minus bytes then 45 ∷ digits_of (drop 1 bytes) else digits_of bytes

-- the bytes behind an id
abbrev pub behind_id : List ℕ → List ℕ
behind_id bytes = behind_digits (without_minus bytes)

-- a point and digits, where there is a point
abbrev pub point_text : List ℕ → List ℕ
point_text [] = []
point_text (c ∷ cs) = if c == 46 then 46 ∷ digits_of cs else []

-- the bytes behind a point and digits
abbrev pub behind_point : List ℕ → List ℕ
behind_point [] = []
behind_point (c ∷ cs) = if c == 46 then behind_digits cs else c ∷ cs

-- digits, and a point and digits
abbrev pub magnitude_text : List ℕ → List ℕ
magnitude_text bytes = digits_of bytes ++ point_text (behind_digits bytes)

-- the bytes behind a magnitude
abbrev pub behind_magnitude : List ℕ → List ℕ
behind_magnitude bytes = behind_point (behind_digits bytes)

-- a minus or none, and a magnitude
abbrev pub degrees_text : List ℕ → List ℕ
degrees_text bytes = if has_minus bytes then 45 ∷ magnitude_text (drop 1 bytes) else magnitude_text bytes

-- the bytes behind a coordinate
abbrev pub behind_degrees : List ℕ → List ℕ
behind_degrees bytes = behind_magnitude (without_minus bytes)

-- a text byte but the percent sign
abbrev pub is_plain : ℕ → Bool
is_plain c = is_text_byte c && not (c == 37)

-- the plain bytes at the front
abbrev pub plain_of : List ℕ → List ℕ
plain_of [] = []
plain_of (c ∷ cs) = if is_plain c then c ∷ plain_of cs else []

-- the bytes from the first that is not plain on
abbrev pub behind_plain : List ℕ → List ℕ
behind_plain [] = []
behind_plain (c ∷ cs) = if is_plain c then behind_plain cs else c ∷ cs
