-- How roads are packed.
use Rattle.std.specs.Prelude.{ℕ, List, [], ◌∷◌, ◌++◌, map, pos, ◌-ℤ◌}
use Rattle.std.specs.List.{AllByRecursion}
use Rattle.live_model.specs.declared.points.Rect.{Rect}
use Rattle.live_model.specs.declared.records.RoadNode.{RoadNode}
use Rattle.live_model.specs.declared.records.RoadRec.{RoadRec}
use Rattle.live_model.specs.Ids.{IsId, ordinal}
use Rattle.live_model.specs.Geometry.{box_of}
use Rattle.live_model.specs.Records.{direction_rank, road_cmp}
use Rattle.live_model.specs.Fits.{IsRoadNode}
use Rattle.obf_wire.specs.Varint.{varint}
use Rattle.obf_wire.specs.Zigzag.{zigzag}
use Rattle.obf_wire.specs.Fields.{number_field, short_field}
use Rattle.coord_delta.specs.Steps.{step_spelling}
use Rattle.box_tree.specs.Trees.{around}
use Rattle.boxed_write.specs.Packed.{Packing, text_number, packed}

-- the smallest box around nodes; of none, the box of the north-west corner
abbrev pub road_box : List RoadNode → Rect
road_box [] = around []
road_box (n ∷ ns) = box_of n.point (map (λ n. n.point) ns)

-- the step from one node to the next: its number, then x, then y
abbrev pub node_spelling : RoadNode → RoadNode → List ℕ
node_spelling from to = varint (zigzag (to.id -ℤ from.id)) ++ step_spelling from.point to.point

-- nodes, each as a step from the one before it
abbrev pub nodes_from : RoadNode → List RoadNode → List ℕ
nodes_from from [] = []
nodes_from from (n ∷ ns) = node_spelling from n ++ nodes_from n ns

-- where number, x and y are 0
abbrev pub start : RoadNode
start = record { id = pos 0; point = record { x = 0; y = 0 } }

-- the nodes of a road
abbrev pub node_list : List RoadNode → List ℕ
node_list nodes = nodes_from start nodes

-- the rule, the number of the value, the direction, and the nodes
abbrev pub road_fields : List (List ℕ) → RoadRec → List ℕ
road_fields texts road = number_field 2 road.rule ++ number_field 3 (text_number texts road.value) ++ number_field 4 (direction_rank road.dir) ++ short_field 5 (node_list road.nodes)

abbrev pub road_packing : Packing RoadRec
road_packing = record { cmp = road_cmp; ordinal = λ road. ordinal road.id; box = λ road. road_box road.nodes; texts = λ road. road.value ∷ []; fields = road_fields }

-- the bytes of the section of these roads
abbrev pub packed_roads : List RoadRec → List ℕ
packed_roads roads = packed road_packing roads

-- the number of the object has magnitude at most 2^48
abbrev pub HasId : RoadRec → Type 0
HasId road = IsId road.id

-- so it has, and each node is one of the grid with a number of an object
abbrev pub IsDrawn : RoadRec → Type 0
IsDrawn road = HasId road × AllByRecursion IsRoadNode road.nodes
