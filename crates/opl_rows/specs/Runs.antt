-- Texts at the front of bytes.
use Rattle.std.specs.Prelude.{ℕ, List, [], ◌∷◌, ◌++◌, drop, Bool, false, ◌==◌, if◌then◌else◌}
use Rattle.text_pieces.specs.Escapes.{is_text_byte, is_hexadecimal}

-- whether a byte is the first
abbrev pub begins : ℕ → List ℕ → Bool
begins c [] = false
begins c (d ∷ ds) = d == c

-- the text bytes at the front
abbrev pub text_front : List ℕ → List ℕ
text_front [] = []
text_front (c ∷ cs) = if is_text_byte c then c ∷ text_front cs else []

-- the bytes from the first that is none on
abbrev pub text_back : List ℕ → List ℕ
text_back [] = []
text_back (c ∷ cs) = if is_text_byte c then text_back cs else c ∷ cs

-- the hexadecimal digits at the front
abbrev pub code_of : List ℕ → List ℕ
code_of [] = []
code_of (c ∷ cs) = if is_hexadecimal c then c ∷ code_of cs else []

-- the bytes from the first that is none on
abbrev pub behind_code : List ℕ → List ℕ
behind_code [] = []
behind_code (c ∷ cs) = if is_hexadecimal c then behind_code cs else c ∷ cs

-- a key, `=` and a value
abbrev pub item_of : List ℕ → List ℕ
item_of bytes = text_front bytes ++ 61 ∷ text_front (drop 1 (text_back bytes))

-- the bytes behind a tag
abbrev pub behind_item : List ℕ → List ℕ
behind_item bytes = text_back (drop 1 (text_back bytes))
