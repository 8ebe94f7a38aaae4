-- Rows as they are printed.
use Rattle.std.specs.Prelude.{ℕ, List, [], ◌∷◌, ◌++◌, codes}
use Rattle.std.specs.List.{flat_map}
use Rattle.std.specs.Fmt.{decimal as printed}
use Rattle.text_pieces.specs.Coordinates.{degrees_text}
use Rattle.text_pieces.specs.Escapes.{escaped}
use Rattle.live_model.specs.declared.points.Point.{Point}
use Rattle.live_model.specs.declared.directions.Dir.{Dir}
use Rattle.live_model.specs.declared.directions.Dir.TheVariants.{Both, Forward, Backward}
use Rattle.live_model.specs.declared.addresses.AddrKind.{AddrKind}
use Rattle.live_model.specs.declared.addresses.AddrKind.TheVariants.{Place, Street, House}
use Rattle.live_model.specs.declared.addresses.AddrRec.{AddrRec}
use Rattle.live_model.specs.declared.rows.Row.{Row}
use Rattle.live_model.specs.declared.rows.Row.TheVariants.{Map, Poi, Addr, Seg, Ban}
use Rattle.live_model.specs.Points.{longitude, latitude}
use Rattle.live_model.specs.CanonicalLines.{id_text, listed}
use Rattle.live_model.specs.Rules.{shape_text}
use Rattle.live_model.specs.Closures.{node_id, way_id}

-- `x` and the longitude, `y` and the latitude
abbrev pub point_text : Point → List ℕ
point_text p = 120 ∷ degrees_text (longitude p) ++ 121 ∷ degrees_text (latitude p)

-- `=` and the canonical spelling
abbrev pub value_text : List ℕ → List ℕ
value_text text = 61 ∷ escaped text

-- `b`, `f` or `r`
abbrev pub direction_text : Dir → List ℕ
direction_text Both = codes "b"
direction_text Forward = codes "f"
direction_text Backward = codes "r"

-- the pieces with a space before each
abbrev pub spaced : List (List ℕ) → List ℕ
spaced pieces = flat_map (λ piece. 32 ∷ piece) pieces

-- a language as a last piece, where there is one
abbrev pub language_pieces : List ℕ → List (List ℕ)
language_pieces [] = []
language_pieces (b ∷ bs) = (b ∷ bs) ∷ []

-- a place or a street, named in words, at a point, by a name and its language
abbrev pub named_text : List ℕ → AddrRec → List ℕ
named_text word a = codes "A" ++ spaced (id_text a.id ∷ word ∷ point_text a.point ∷ value_text a.name ∷ language_pieces a.lang)

-- a place and a street with their name, a house with its number and its street
abbrev pub address_text : AddrKind → AddrRec → List ℕ
address_text Place a = named_text (codes "place") a
address_text Street a = named_text (codes "street") a
address_text House a = codes "H" ++ spaced (id_text a.id ∷ point_text a.point ∷ value_text a.number ∷ value_text a.name ∷ [])

-- the line of a row without its line feed
unfoldable pub printed_row : Row → List ℕ
printed_row (Map m) = codes "M" ++ spaced (id_text m.id ∷ printed m.rule ∷ shape_text m.shape ∷ value_text m.name ∷ listed point_text m.points ∷ [])
printed_row (Poi p) = codes "P" ++ spaced (id_text p.id ∷ p.category ∷ point_text p.point ∷ value_text p.name ∷ [])
printed_row (Addr a) = address_text a.kind a
printed_row (Seg s) = codes "R" ++ spaced (id_text s.id ∷ printed s.index ∷ id_text (node_id s.a.id) ∷ id_text (node_id s.b.id) ∷ direction_text s.dir ∷ point_text s.a.point ∷ point_text s.b.point ∷ value_text s.value ∷ [])
printed_row (Ban b) = codes "X" ++ spaced (id_text b.id ∷ id_text (way_id b.from) ∷ id_text (node_id b.via) ∷ id_text (way_id b.to) ∷ point_text b.point ∷ value_text b.value ∷ [])

-- the lines of rows, in order
abbrev pub rows_text : List Row → List ℕ
rows_text rows = flat_map (λ row. printed_row row ++ 10 ∷ []) rows
