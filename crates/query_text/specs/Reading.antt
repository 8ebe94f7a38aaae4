-- Fields of a question as they are read.
use Rattle.std.specs.Prelude.{◌≡◌, ◌+◌, ◌<◌, ◌^◌, ℕ, List, [], ◌∷◌, length, IsTrue, Option, None}
use Rattle.std.specs.List.{AllByRecursion}
use Rattle.std.specs.Str.{is_utf8}
use Rattle.text_pieces.specs.declared.lines.Field.{Field}
use Rattle.text_pieces.specs.Coordinates.{degrees_of}
use Rattle.text_pieces.specs.Escapes.{text_of}
use Rattle.text_pieces.specs.Lines.{fields_from}
use Rattle.live_model.specs.declared.points.Rect.{Rect}
use Rattle.live_model.specs.Points.{rect_from_words}
use Rattle.query_text.specs.declared.fields.Corners.{Corners}

-- a field with its place
abbrev pub placed : Field → ℕ × List ℕ
placed f = (f.at, f.bytes.now)

-- each field is UTF-8
abbrev pub AreTexts : List (ℕ × List ℕ) → Type 0
AreTexts fields = AllByRecursion (λ f. IsTrue (is_utf8 f.1)) fields

-- the first four fields from a place on, and those after them
pub record AreCorners (at : ℕ) (bytes : List ℕ) (c : Corners) : Type 0 where
  pub fields : fields_from at bytes ≡ placed c.west ∷ placed c.south ∷ placed c.east ∷ placed c.north ∷ fields_from c.north.next c.north.rest.now
  pub within : c.north.next + length c.north.rest.now < 2 ^ 63

-- the rectangle that four fields spell
abbrev pub rect_of_corners : Corners → Option Rect
rect_of_corners c =
    rect_from_words (degrees_of 1800000000 c.west.bytes.now) (degrees_of 900000000 c.south.bytes.now)
    (degrees_of 1800000000 c.east.bytes.now) (degrees_of 900000000 c.north.bytes.now)

-- the text that one field alone spells
abbrev pub spelled_by : List (ℕ × List ℕ) → Option (List ℕ)
spelled_by (field ∷ []) = text_of field.1
spelled_by fields = None
