-- Questions as they are written: a letter and what it asks for, parted by blanks.
use Rattle.std.specs.Prelude.{ℕ, ◌≢◌, ◌≤◌, List, [], ◌∷◌, codes, IsTrue, Option, Some, None, if◌then◌else◌, bytes_eq}
use Rattle.std.specs.Option.{option_map}
use Rattle.text_pieces.specs.Lines.{fields_from}
use Rattle.text_pieces.specs.Escapes.{text_of}
use Rattle.live_model.specs.declared.points.Rect.{Rect}
use Rattle.live_model.specs.declared.queries.Query.{Query}
use Rattle.live_model.specs.declared.queries.Query.TheVariants.{View, Category, Prefix, Street, Roads}
use Rattle.live_model.specs.Points.{IsRect, rect_from_fields}
use Rattle.live_model.specs.Rules.{zoom_of, is_category}

-- a view of a rectangle at a zoom, where both are there
abbrev pub view_with : Option Rect → Option ℕ → Option Query
view_with (Some rect) (Some zoom) = Some (View rect zoom)
view_with rect zoom = None

-- a rectangle and a zoom
abbrev pub view_from : List (ℕ × List ℕ) → Option Query
view_from (west ∷ south ∷ east ∷ north ∷ zoom ∷ []) = view_with (rect_from_fields (west ∷ south ∷ east ∷ north ∷ [])) (zoom_of zoom.1)
view_from fields = None

-- a category and a rectangle
abbrev pub category_from : List (ℕ × List ℕ) → Option Query
category_from [] = None
category_from (category ∷ fields) = if is_category category.1 then option_map (Category category.1) (rect_from_fields fields) else None

-- one escaped text
abbrev pub text_from : (List ℕ → Query) → List (ℕ × List ℕ) → Option Query
text_from ask (field ∷ []) = option_map ask (text_of field.1)
text_from ask fields = None

-- `V` asks for a view, `C` for a category, `A` for names that begin so, `H` for houses, `S` for roads
abbrev pub query_named : List ℕ → List (ℕ × List ℕ) → Option Query
query_named letter fields =
    if bytes_eq letter (codes "V") then view_from fields else if bytes_eq letter (codes "C") then category_from fields
    else if bytes_eq letter (codes "A") then text_from Prefix fields else if bytes_eq letter (codes "H") then text_from Street fields
    else if bytes_eq letter (codes "S") then option_map Roads (rect_from_fields fields) else None

-- the letter, and what it asks for
abbrev pub query_from : List (ℕ × List ℕ) → Option Query
query_from [] = None
query_from (letter ∷ fields) = query_named letter.1 fields

-- the question that a text spells; blanks may stand at either end
unfoldable pub query_of : List ℕ → Option Query
query_of text = query_from (fields_from 0 text)

-- a good rectangle, a zoom of at most 22, a category, a text that is not empty
abbrev pub IsQuery : Query → Type 0
IsQuery (View rect zoom) = IsRect rect × (zoom ≤ 22)
IsQuery (Category category rect) = IsTrue (is_category category) × IsRect rect
IsQuery (Prefix text) = text ≢ []
IsQuery (Street text) = text ≢ []
IsQuery (Roads rect) = IsRect rect
