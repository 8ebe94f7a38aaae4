-- How map records are packed.
use Rattle.std.specs.Prelude.{ℕ, List, [], ◌∷◌, ◌++◌}
use Rattle.std.specs.List.{AllByRecursion}
use Rattle.live_model.specs.declared.points.Point.{Point}
use Rattle.live_model.specs.declared.points.Rect.{Rect}
use Rattle.live_model.specs.declared.records.MapRec.{MapRec}
use Rattle.live_model.specs.Ids.{IsId, ordinal}
use Rattle.live_model.specs.Geometry.{box_of}
use Rattle.live_model.specs.Points.{IsInGrid}
use Rattle.live_model.specs.Records.{map_cmp}
use Rattle.live_model.specs.Rules.{shape_rank}
use Rattle.obf_wire.specs.Fields.{number_field, short_field}
use Rattle.coord_delta.specs.Steps.{point_list}
use Rattle.box_tree.specs.Trees.{around}
use Rattle.boxed_write.specs.Packed.{Packing, text_number, packed}

-- the smallest box around points; of none, the box of the north-west corner
abbrev pub drawn_box : List Point → Rect
drawn_box [] = around []
drawn_box (p ∷ ps) = box_of p ps

-- the rule, the shape, the number of the name, and the points
abbrev pub map_fields : List (List ℕ) → MapRec → List ℕ
map_fields texts m = number_field 2 m.rule ++ number_field 3 (shape_rank m.shape) ++ number_field 4 (text_number texts m.name) ++ short_field 5 (point_list m.points)

abbrev pub map_packing : Packing MapRec
map_packing = record { cmp = map_cmp; ordinal = λ m. ordinal m.id; box = λ m. drawn_box m.points; texts = λ m. m.name ∷ []; fields = map_fields }

-- the bytes of the section of these map records
abbrev pub packed_map : List MapRec → List ℕ
packed_map records = packed map_packing records

-- the number of the object has magnitude at most 2^48
abbrev pub HasId : MapRec → Type 0
HasId m = IsId m.id

-- so it has, and each point is in the grid
abbrev pub IsDrawn : MapRec → Type 0
IsDrawn m = HasId m × AllByRecursion IsInGrid m.points
