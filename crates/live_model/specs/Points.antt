-- Points of the grid, and rectangles with all edges closed.
-- A unit is the seventh place of a degree; x grows to the east from -180 degrees, y to the south from 90.
use Rattle.std.specs.Prelude.{ℕ, ◌≤◌, List, [], ◌∷◌, Bool, IsTrue, ◌&&◌, nat_le, min, max, int_le, Option, Some, None, if◌then◌else◌, ℤ, pos, neg_ℤ, ◌-ℤ◌, unsigned_abs}
use Rattle.text_pieces.specs.Lines.{fields_from}
use Rattle.text_pieces.specs.Coordinates.{degrees_of}
use Rattle.live_model.specs.declared.points.Point.{Point}
use Rattle.live_model.specs.declared.points.Rect.{Rect}
use Rattle.live_model.specs.Ids.{lifted_by}

-- at most 360 degrees to the east and 180 to the south
abbrev pub IsInGrid : Point → Type 0
IsInGrid p = (p.x ≤ 3600000000) × (p.y ≤ 1800000000)

-- ten-millionths of a degree to the east
abbrev pub longitude : Point → ℤ
longitude p = pos p.x -ℤ pos 1800000000

-- ten-millionths of a degree to the north
abbrev pub latitude : Point → ℤ
latitude p = pos 900000000 -ℤ pos p.y

-- at most 180 degrees to the east or west, and at most 90 to the north or south
abbrev pub are_on_earth : ℤ → ℤ → Bool
are_on_earth lon lat = nat_le (unsigned_abs lon) 1800000000 && nat_le (unsigned_abs lat) 900000000

-- the point of a longitude and a latitude
abbrev pub point_at : ℤ → ℤ → Point
point_at lon lat = record { x = lifted_by 1800000000 lon; y = lifted_by 900000000 (neg_ℤ lat) }

-- the point of a longitude and a latitude, where they are on earth
abbrev pub point_from : ℤ → ℤ → Option Point
point_from lon lat = if are_on_earth lon lat then Some (point_at lon lat) else None

-- the edges are in the grid, and none lies behind its opposite
pub record IsRect (r : Rect) : Type 0 where
  pub across : r.left ≤ r.right
  pub down : r.top ≤ r.bottom
  pub right_in_grid : r.right ≤ 3600000000
  pub bottom_in_grid : r.bottom ≤ 1800000000

-- the point lies in the rectangle or on an edge
abbrev pub is_inside : Rect → Point → Bool
is_inside r p = (nat_le r.left p.x && nat_le p.x r.right) && (nat_le r.top p.y && nat_le p.y r.bottom)

-- no edge of the one lies beyond the opposite edge of the other
abbrev pub overlaps : Rect → Rect → Bool
overlaps a b = (nat_le a.left b.right && nat_le b.left a.right) && (nat_le a.top b.bottom && nat_le b.top a.bottom)

-- the smallest rectangle around two
abbrev pub union : Rect → Rect → Rect
union a b = record { left = min a.left b.left; top = min a.top b.top; right = max a.right b.right; bottom = max a.bottom b.bottom }

-- a point lies in both
abbrev pub SharesPoint : Rect → Rect → Type 0
SharesPoint a b = (p : Point) × IsTrue (is_inside a p) × IsTrue (is_inside b p)

-- the left edge is the west, and the top edge the north
abbrev pub rect_from : ℤ → ℤ → ℤ → ℤ → Option Rect
rect_from west south east north =
    if (are_on_earth west south && are_on_earth east north) && (int_le west east && int_le south north) then
    Some (record { left = (point_at west north).x; top = (point_at west north).y; right = (point_at east south).x; bottom = (point_at east south).y })
    else None

-- west, south, east and north, where each is there
abbrev pub rect_from_words : Option ℤ → Option ℤ → Option ℤ → Option ℤ → Option Rect
rect_from_words (Some west) (Some south) (Some east) (Some north) = rect_from west south east north
rect_from_words west south east north = None

-- the rectangle of four fields: west, south, east and north
abbrev pub rect_from_fields : List (ℕ × List ℕ) → Option Rect
rect_from_fields (west ∷ south ∷ east ∷ north ∷ []) =
    rect_from_words (degrees_of 1800000000 west.1) (degrees_of 900000000 south.1) (degrees_of 1800000000 east.1) (degrees_of 900000000 north.1)
rect_from_fields fields = None

-- four coordinates parted by blanks
unfoldable pub rect_of : List ℕ → Option Rect
rect_of text = rect_from_fields (fields_from 0 text)
