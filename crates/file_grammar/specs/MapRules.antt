-- What has to hold of a map record in its block, and the record that it stands for.
use Rattle.std.specs.Prelude.{ℕ, zero, suc, List, [], ◌∷◌, map, length, Bool, true, false, ◌&&◌, ◌||◌, not, nat_lt, nat_le, ◌==◌, Option, slice_get, unsigned_abs}
use Rattle.std.specs.List.{list_all}
use Rattle.std.specs.Option.{option_map_or}
use Rattle.live_model.specs.declared.points.Point.{Point}
use Rattle.live_model.specs.declared.shapes.Shape.{Shape}
use Rattle.live_model.specs.declared.shapes.Shape.TheVariants.{Point as PointShape, Line as LineShape, Area as AreaShape}
use Rattle.live_model.specs.declared.rules.Rule.{Rule}
use Rattle.live_model.specs.declared.records.MapRec.{MapRec}
use Rattle.live_model.specs.Rules.{shape_rank}
use Rattle.live_model.specs.Records.{is_map}
use Rattle.coord_delta.specs.Steps.{Place, places}
use Rattle.obf_wire.specs.declared.file.FileKind.TheVariants.{BadOrder, BadId, BadRef, BadPoint, BadMark}
use Rattle.file_grammar.specs.Messages.{Fields, has_number, has_numbers}
use Rattle.file_grammar.specs.Facts.{Fact, fact}
use Rattle.file_grammar.specs.Sections.{Placed, placed, Entry, Block, text_of, object_of, Section}
use Rattle.file_grammar.specs.Listed.{records_in}
use Rattle.file_grammar.specs.BoxRules.{follows, is_ordinal, is_node, is_way, Beside, is_marked, is_on_grid, Boxing}

-- the fields of a map record
pub record MapFields : Type 0 where
  pub step : Placed ℕ
  pub rule : Placed ℕ
  pub shape : Placed ℕ
  pub name : Placed ℕ
  pub points : Placed (List ℕ)

-- none
abbrev pub no_fields : MapFields
no_fields = record { step = placed 0 0; rule = placed 0 0; shape = placed 0 0; name = placed 0 0; points = placed 0 [] }

-- the five fields in their order
abbrev pub map_fields : Fields → MapFields
map_fields (has_number a j step (has_number b k rule (has_number c l shape (has_number d m name (has_numbers e n points rest))))) =
    record { step = placed a step; rule = placed b rule; shape = placed c shape; name = placed d name; points = placed e points }
map_fields fields = no_fields

-- rising by ordinal and rule, where equal ones may stand side by side; it holds of a number that is no ordinal
abbrev pub entries_rise : Entry → Entry → Bool
entries_rise a b =
    (nat_lt a.ordinal b.ordinal || ((a.ordinal == b.ordinal) && nat_le (map_fields a.fields).rule.value (map_fields b.fields).rule.value))
    || not (is_ordinal a.ordinal && is_ordinal b.ordinal)

-- a point is a node's, a line and an area a way's; a number that is no shape may be of either
abbrev pub is_drawn_of : ℕ → ℕ → Bool
is_drawn_of zero ordinal = is_node ordinal
is_drawn_of (suc zero) ordinal = is_way ordinal
is_drawn_of (suc (suc zero)) ordinal = is_way ordinal
is_drawn_of shape ordinal = is_node ordinal || is_way ordinal

-- a point has one place, a line and an area two or more; a number that is no shape may have any
abbrev pub is_count_for : ℕ → ℕ → Bool
is_count_for zero count = count == 1
is_count_for (suc zero) count = nat_le 2 count
is_count_for (suc (suc zero)) count = nat_le 2 count
is_count_for shape count = true

-- a rule of the map, of this shape
abbrev pub draws : ℕ → Rule → Bool
draws shape rule = (shape_rank rule.shape == shape) && is_map rule.class

-- what has to hold of a record behind another, by its fields
abbrev pub map_facts_of : Beside → Block → Option Entry × Entry → MapFields → List Fact
map_facts_of beside block pair f =
    fact pair.1.at BadOrder (follows entries_rise pair)
    ∷ fact f.step.at BadId (is_ordinal pair.1.ordinal && is_drawn_of f.shape.value pair.1.ordinal)
    ∷ fact f.step.at BadMark (is_marked beside.marks pair.1.ordinal)
    ∷ fact f.rule.at BadRef (option_map_or (draws f.shape.value) (slice_get beside.rules f.rule.value) false)
    ∷ fact f.shape.at BadRef (nat_le f.shape.value 2)
    ∷ fact f.name.at BadRef (nat_le f.name.value (length block.texts))
    ∷ fact f.points.at BadPoint (list_all is_on_grid (places f.points.value) && is_count_for f.shape.value (length (places f.points.value)))
    ∷ []

-- the same by the record as it stands
abbrev pub map_facts : Beside → Block → Option Entry × Entry → List Fact
map_facts beside block pair = map_facts_of beside block pair (map_fields pair.1.fields)

-- boxed records of the map
abbrev pub map_boxing : Boxing
map_boxing = record { facts = map_facts; points = λ entry. places (map_fields entry.fields).points.value }

-- The records.

-- the shape of a number
abbrev pub shape_from : ℕ → Shape
shape_from zero = PointShape
shape_from (suc zero) = LineShape
shape_from n = AreaShape

-- a place on the grid as a point
abbrev pub point_from : Place → Point
point_from (x, y) = record { x = unsigned_abs x; y = unsigned_abs y }

-- the record by its fields
abbrev pub map_record_of : Block → Entry → MapFields → MapRec
map_record_of block entry f = record {
  id = object_of entry.ordinal;
  rule = f.rule.value;
  shape = shape_from f.shape.value;
  name = text_of block.texts f.name.value;
  points = map point_from (places f.points.value);
}

-- the record that an entry of a block stands for
abbrev pub map_read : Block → Entry → MapRec
map_read block entry = map_record_of block entry (map_fields entry.fields)

-- the records of a section in the order of the file
abbrev pub map_records_in : Section → List MapRec
map_records_in section = records_in map_read section
