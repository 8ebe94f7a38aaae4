-- What has to hold of roads and turn restrictions, and the records that they stand for.
use Rattle.std.specs.Prelude.{ℕ, zero, suc, List, [], ◌∷◌, ◌++◌, map, length, Bool, true, false, ◌&&◌, nat_le, ◌==◌, Option, slice_get, ℤ, pos, ◌+ℤ◌}
use Rattle.std.specs.List.{list_all}
use Rattle.std.specs.Option.{option_map_or}
use Rattle.live_model.specs.declared.directions.Dir.{Dir}
use Rattle.live_model.specs.declared.directions.Dir.TheVariants.{Both, Forward, Backward}
use Rattle.live_model.specs.declared.rules.Rule.{Rule}
use Rattle.live_model.specs.declared.records.RoadNode.{RoadNode}
use Rattle.live_model.specs.declared.records.RoadRec.{RoadRec}
use Rattle.live_model.specs.declared.records.BanRec.{BanRec}
use Rattle.live_model.specs.Rules.{admits, shape_rank}
use Rattle.live_model.specs.Records.{is_road}
use Rattle.coord_delta.specs.Steps.{Place, moved, places}
use Rattle.obf_wire.specs.Zigzag.{unzigzag}
use Rattle.obf_wire.specs.declared.file.FileKind.TheVariants.{BadOrder, BadId, BadRef, BadPoint, BadMark}
use Rattle.file_grammar.specs.Messages.{Fields, has_number, has_numbers, has_message}
use Rattle.file_grammar.specs.Facts.{Fact, fact}
use Rattle.file_grammar.specs.Sections.{Placed, placed, Entry, Block, Section, object_of, section_in, text_of}
use Rattle.file_grammar.specs.BoxRules.{Beside, Boxing, follows, is_marked, is_on_grid, is_ordinal, is_way, section_facts}
use Rattle.file_grammar.specs.Listed.{records_in}
use Rattle.file_grammar.specs.RecordRules.{is_object_number, is_one_location, is_relation, only_point, ordinals_rise}
use Rattle.file_grammar.specs.MapRules.{point_from}

-- Roads.

-- the fields of a road
pub record RoadFields : Type 0 where
  pub step : Placed ℕ
  pub rule : Placed ℕ
  pub value : Placed ℕ
  pub direction : Placed ℕ
  pub triples : Placed (List ℕ)

-- none
abbrev pub no_road : RoadFields
no_road = record { step = placed 0 0; rule = placed 0 0; value = placed 0 0; direction = placed 0 0; triples = placed 0 [] }

-- the five fields in their order
abbrev pub road_fields : Fields → RoadFields
road_fields (has_number a j step (has_number b k rule (has_number c l value (has_number d m direction (has_numbers e n triples rest))))) =
    record { step = placed a step; rule = placed b rule; value = placed c value; direction = placed d direction; triples = placed e triples }
road_fields fields = no_road

-- a node of a road, which may have a number of no object and a location off the grid
pub record Stop : Type 0 where
  pub number : ℤ
  pub location : Place

-- the nodes that steps lead to, each from the node before it
abbrev pub stops_from : ℤ → Place → List ℕ → List Stop
stops_from before from (n ∷ x ∷ y ∷ steps) =
    let number = before +ℤ unzigzag n in let to = moved from (unzigzag x) (unzigzag y) in
    record { number = number; location = to } ∷ stops_from number to steps
stops_from before from steps = []

-- the first from where number, x and y are 0
abbrev pub stops : List ℕ → List Stop
stops steps = stops_from (pos 0) (pos 0, pos 0) steps

-- a rule of roads, which are lines
abbrev pub makes_roads : Rule → Bool
makes_roads rule = (shape_rank rule.shape == 1) && is_road rule.class

-- the value is one that the rule admits; it holds where there is no rule
abbrev pub is_admitted : List Rule → ℕ → List ℕ → Bool
is_admitted rules rule value = option_map_or (λ r. admits r.value value) (slice_get rules rule) true

-- what has to hold of a road behind another, by its fields
abbrev pub road_facts_of : Beside → Block → Option Entry × Entry → RoadFields → List Fact
road_facts_of beside block pair f =
    fact pair.1.at BadOrder (follows ordinals_rise pair)
    ∷ fact f.step.at BadId (is_ordinal pair.1.ordinal && is_way pair.1.ordinal)
    ∷ fact f.step.at BadMark (is_marked beside.marks pair.1.ordinal)
    ∷ fact f.rule.at BadRef (option_map_or makes_roads (slice_get beside.rules f.rule.value) false)
    ∷ fact f.value.at BadRef (nat_le f.value.value (length block.texts) && is_admitted beside.rules f.rule.value (text_of block.texts f.value.value))
    ∷ fact f.direction.at BadRef (nat_le f.direction.value 2)
    ∷ fact f.triples.at BadId (list_all (λ stop. is_object_number stop.number) (stops f.triples.value))
    ∷ fact f.triples.at BadPoint (list_all (λ stop. is_on_grid stop.location) (stops f.triples.value) && nat_le 2 (length (stops f.triples.value)))
    ∷ []

-- the same by the record as it stands
abbrev pub road_facts : Beside → Block → Option Entry × Entry → List Fact
road_facts beside block pair = road_facts_of beside block pair (road_fields pair.1.fields)

-- boxed roads
abbrev pub road_boxing : Boxing
road_boxing = record { facts = road_facts; points = λ entry. map (λ stop. stop.location) (stops (road_fields entry.fields).triples.value) }

-- Turn restrictions.

-- the fields of a restriction; from, via and to are signed
pub record BanFields : Type 0 where
  pub step : Placed ℕ
  pub value : Placed ℕ
  pub from : Placed ℕ
  pub via : Placed ℕ
  pub to : Placed ℕ
  pub points : Placed (List ℕ)

-- none
abbrev pub no_ban : BanFields
no_ban = record { step = placed 0 0; value = placed 0 0; from = placed 0 0; via = placed 0 0; to = placed 0 0; points = placed 0 [] }

-- the six fields in their order
abbrev pub ban_fields : Fields → BanFields
ban_fields (has_number a j step (has_number b k value (has_number c l from (has_number d m via (has_number e n to (has_numbers f o points rest)))))) =
    record { step = placed a step; value = placed b value; from = placed c from; via = placed d via; to = placed e to; points = placed f points }
ban_fields fields = no_ban

-- the number of a way or a node that a field holds
abbrev pub is_number_in : Placed ℕ → Bool
is_number_in field = is_object_number (unzigzag field.value)

-- what has to hold of a restriction behind another, by its fields
abbrev pub ban_facts_of : Beside → Block → Option Entry × Entry → BanFields → List Fact
ban_facts_of beside block pair f =
    fact pair.1.at BadOrder (follows ordinals_rise pair)
    ∷ fact f.step.at BadId (is_ordinal pair.1.ordinal && is_relation pair.1.ordinal)
    ∷ fact f.step.at BadMark (is_marked beside.marks pair.1.ordinal)
    ∷ fact f.value.at BadRef (nat_le f.value.value (length block.texts))
    ∷ fact f.from.at BadId (is_number_in f.from)
    ∷ fact f.via.at BadId (is_number_in f.via)
    ∷ fact f.to.at BadId (is_number_in f.to)
    ∷ fact f.points.at BadPoint (is_one_location (places f.points.value))
    ∷ []

-- the same by the record as it stands
abbrev pub ban_facts : Beside → Block → Option Entry × Entry → List Fact
ban_facts beside block pair = ban_facts_of beside block pair (ban_fields pair.1.fields)

-- boxed restrictions
abbrev pub ban_boxing : Boxing
ban_boxing = record { facts = ban_facts; points = λ entry. places (ban_fields entry.fields).points.value }

-- The records.

-- the direction of a number
abbrev pub direction_from : ℕ → Dir
direction_from zero = Both
direction_from (suc zero) = Forward
direction_from n = Backward

-- a node with a number of an object, on the grid
abbrev pub road_node_of : Stop → RoadNode
road_node_of stop = record { id = stop.number; point = point_from stop.location }

-- the road by its fields
abbrev pub road_record_of : Block → Entry → RoadFields → RoadRec
road_record_of block entry f = record {
  id = object_of entry.ordinal;
  rule = f.rule.value;
  value = text_of block.texts f.value.value;
  dir = direction_from f.direction.value;
  nodes = map road_node_of (stops f.triples.value);
}

-- the road that an entry of a block stands for
abbrev pub road_read : Block → Entry → RoadRec
road_read block entry = road_record_of block entry (road_fields entry.fields)

-- the restriction by its fields
abbrev pub ban_record_of : Block → Entry → BanFields → BanRec
ban_record_of block entry f = record {
  id = object_of entry.ordinal;
  value = text_of block.texts f.value.value;
  from = unzigzag f.from.value;
  via = unzigzag f.via.value;
  to = unzigzag f.to.value;
  point = only_point (places f.points.value);
}

-- the restriction that an entry of a block stands for
abbrev pub ban_read : Block → Entry → BanRec
ban_read block entry = ban_record_of block entry (ban_fields entry.fields)

-- The whole section.

-- the roads and the restrictions of a section, each in boxes
pub record Routing : Type 0 where
  pub roads : Section
  pub bans : Section

-- roads, then restrictions
abbrev pub routing_in : Fields → Routing
routing_in (has_message a j roads (has_message b k bans rest)) = record { roads = section_in roads; bans = section_in bans }
routing_in fields = record { roads = record { nodes = []; blocks = [] }; bans = record { nodes = []; blocks = [] } }

-- all that has to hold of a section of good form
abbrev pub routing_facts : Beside → Routing → List Fact
routing_facts beside routing = section_facts road_boxing beside routing.roads ++ section_facts ban_boxing beside routing.bans

-- the roads, in the order of the file
abbrev pub roads_in : Section → List RoadRec
roads_in section = records_in road_read section

-- the restrictions, in the order of the file
abbrev pub bans_in : Section → List BanRec
bans_in section = records_in ban_read section
