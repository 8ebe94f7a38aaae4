-- Where an object lies: its points, its shapes, and the one point that stands for it.
-- An object comes with the ids that it refers to in order, each with its object, if there is one.
use Rattle.std.specs.Prelude.{◌+◌, ◌/◌, min, max, List, [], ◌∷◌, length, Bool, false, ◌&&◌, nat_le, Option, Some, None, if◌then◌else◌, ℤ, map, filter_map, option_to_list}
use Rattle.std.specs.Option.{option_map, option_and_then}
use Rattle.std.specs.List.{last_or}
use Rattle.std.specs.Ordering.{int_eq}
use Rattle.live_model.specs.declared.ids.Kind.{Kind}
use Rattle.live_model.specs.declared.ids.Kind.TheVariants.{Node, Way, Relation}
use Rattle.live_model.specs.declared.points.Point.{Point}
use Rattle.live_model.specs.declared.points.Rect.{Rect}
use Rattle.live_model.specs.declared.objects.Entity.{Entity}
use Rattle.live_model.specs.declared.records.RoadNode.{RoadNode}
use Rattle.live_model.specs.declared.shapes.Shape.{Shape}
use Rattle.live_model.specs.declared.shapes.Shape.TheVariants.{Point as PointShape, Line as LineShape, Area as AreaShape}
use Rattle.live_model.specs.Ids.{Id}

-- Points.

-- a node with its place
abbrev pub node_at : ℤ → Point → RoadNode
node_at number point = record { id = number; point = point }

-- a node that is there and has a place
abbrev pub located : Id × Option Entity → Option RoadNode
located object = option_and_then (λ e. option_map (node_at object.0.number) e.place) object.1

-- the located ones among the nodes of a way, in order and as often as they are named
abbrev pub located_nodes : List (Id × Option Entity) → List RoadNode
located_nodes referred = filter_map located referred

-- a way with fewer than two located nodes has no geometry
abbrev pub way_points : List Point → List Point
way_points (p ∷ q ∷ ps) = p ∷ q ∷ ps
way_points points = []

-- a node lies at its place and a way at its nodes; a relation has no geometry of its own
abbrev pub kind_points : Kind → Option Point → List RoadNode → List Point
kind_points Node place nodes = option_to_list place
kind_points Way place nodes = way_points (map (λ n. n.point) nodes)
kind_points Relation place nodes = []

-- the place of a node, or the located nodes of a way; none where the object has no geometry
abbrev pub points_of : Entity → List (Id × Option Entity) → List Point
points_of e referred = kind_points e.id.kind e.place (located_nodes referred)

-- Shapes.

-- two numbers, both there, that are one
abbrev pub are_equal : Option ℤ → Option ℤ → Bool
are_equal (Some m) (Some n) = int_eq m n
are_equal m n = false

-- the reference that a way begins with
abbrev pub first_ref : List ℤ → Option ℤ
first_ref [] = None
first_ref (n ∷ ns) = Some n

-- at least four references, the last of which is the first again; whether their nodes are there does not matter
abbrev pub is_closed : List ℤ → Bool
is_closed refs = nat_le 4 (length refs) && are_equal (first_ref refs) (last_or None refs)

-- a way is a line, and a closed one an area too
abbrev pub way_shapes : List ℤ → List Shape
way_shapes refs = if is_closed refs then LineShape ∷ AreaShape ∷ [] else LineShape ∷ []

-- how objects of a kind can be drawn
abbrev pub kind_shapes : Kind → List ℤ → List Shape
kind_shapes Node refs = PointShape ∷ []
kind_shapes Way refs = way_shapes refs
kind_shapes Relation refs = []

-- no shape without points
abbrev pub shapes_with : List Point → List Shape → List Shape
shapes_with [] shapes = []
shapes_with (p ∷ ps) shapes = shapes

-- a node is a point, an open way a line, and a closed way a line and an area
abbrev pub shapes_of : Entity → List (Id × Option Entity) → List Shape
shapes_of e referred = shapes_with (points_of e referred) (kind_shapes e.id.kind e.refs)

-- The one point.

-- a point as a rectangle without width or height
abbrev pub box_of_point : Point → Rect
box_of_point p = record { left = p.x; top = p.y; right = p.x; bottom = p.y }

-- the smallest rectangle around a rectangle and a point
abbrev pub box_with : Rect → Point → Rect
box_with r p = record { left = min r.left p.x; top = min r.top p.y; right = max r.right p.x; bottom = max r.bottom p.y }

-- the smallest rectangle around a rectangle and points
abbrev pub box_around : Rect → List Point → Rect
box_around r [] = r
box_around r (p ∷ ps) = box_around (box_with r p) ps

-- the smallest rectangle around points of which p is one
abbrev pub box_of : Point → List Point → Rect
box_of p ps = box_around (box_of_point p) ps

-- each half is rounded down, to the west and to the north
abbrev pub middle : Rect → Point
middle r = record { x = (r.left + r.right) / 2; y = (r.top + r.bottom) / 2 }

-- one point is itself, and of more the middle of their bounding box
abbrev pub one_point : List Point → Option Point
one_point [] = None
one_point (p ∷ []) = Some p
one_point (p ∷ q ∷ ps) = Some (middle (box_of p (q ∷ ps)))

-- the place of a node, and the middle of a way; none where the object has no geometry
abbrev pub point_of : Entity → List (Id × Option Entity) → Option Point
point_of e referred = one_point (points_of e referred)
