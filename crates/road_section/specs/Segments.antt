-- The segments of a road, one node after another.
use Rattle.std.specs.Prelude.{List, [], ◌∷◌, Bool, false, Option, Some, None}
use Rattle.live_model.specs.declared.points.Rect.{Rect}
use Rattle.live_model.specs.declared.records.RoadNode.{RoadNode}
use Rattle.live_model.specs.Maps.{meets}

-- the segment from the node before, if there is one, has a box that meets the rectangle
abbrev pub touches : Rect → Option RoadNode → RoadNode → Bool
touches rect None node = false
touches rect (Some before) node = meets rect (before.point ∷ node.point ∷ [])

-- nodes with the one before them, if there is one
abbrev pub after_node : Option RoadNode → List RoadNode → List RoadNode
after_node None nodes = nodes
after_node (Some before) nodes = before ∷ nodes
