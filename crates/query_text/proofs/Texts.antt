-- The fields of a text that is UTF-8.
use Rattle.std.proofs.Common.{◌≡◌, ℕ, List, ◌∷◌, subst}
use Rattle.std.specs.Str.{IsUtf8}
use Rattle.std.proofs.lemmas.Str.{is_utf8-from_IsUtf8}
use Rattle.text_pieces.specs.Lines.{fields_from}
use Rattle.query_text.specs.Reading.{AreTexts}
use Rattle.tag_rules.proofs.Texts.{fields_are_texts}

-- all of them are UTF-8
pub all_texts : (at : ℕ) (bytes : List ℕ) → IsUtf8 bytes → AreTexts (fields_from at bytes)
all_texts at bytes utf8 = fields_are_texts at bytes (is_utf8-from_IsUtf8 bytes utf8)

-- those after the first are
pub texts_after : (at : ℕ) (bytes : List ℕ) (first : ℕ × List ℕ) (fields : List (ℕ × List ℕ)) → AreTexts (fields_from at bytes) → fields_from at bytes ≡ first ∷ fields → AreTexts fields
texts_after at bytes first fields all e = (subst AreTexts e all).1
