-- The key of a name.
use Rattle.std.specs.Prelude.{List, ℕ, chars, encode_utf8_all}
use Rattle.caseless.specs.Caseless.{default_case_fold}
use Rattle.unicode_normalization.specs.Forms.{nfd}

-- the UTF-8 of the characters of the name, decomposed, folded in full and decomposed again
unfoldable pub key : List ℕ → List ℕ
key name = encode_utf8_all (nfd (default_case_fold (nfd (chars name))))
