-- The box of points, one point after another.
use Rattle.std.specs.Prelude.{List, [], ◌∷◌, Option, Some, None}
use Rattle.live_model.specs.declared.points.Point.{Point}
use Rattle.live_model.specs.declared.points.Rect.{Rect}
use Rattle.live_model.specs.Geometry.{box_of, box_of_point, box_with}

-- the smallest rectangle around points; none around none
abbrev pub bounds_of : List Point → Option Rect
bounds_of [] = None
bounds_of (p ∷ ps) = Some (box_of p ps)

-- the smallest rectangle around one, if there is one, and a point
abbrev pub widened : Option Rect → Point → Rect
widened None p = box_of_point p
widened (Some r) p = box_with r p
