-- The rules of roads and of restrictions over what was read of them.
use Rattle.std.specs.Prelude.{◌≡◌, ℕ, List, [], ◌∷◌, length, Bool, true, false, ◌&&◌, ◌||◌, not, nat_le, ◌==◌, slice_get, Option, Some, None}
use Rattle.std.specs.List.{list_all}
use Rattle.std.specs.Option.{option_map_or}
use Rattle.live_model.specs.declared.points.Rect.{Rect}
use Rattle.live_model.specs.declared.rules.Rule.{Rule}
use Rattle.coord_delta.specs.Steps.{places}
use Rattle.obf_wire.specs.Zigzag.{unzigzag}
use Rattle.obf_wire.specs.declared.file.FileKind.TheVariants.{BadOrder, BadId, BadRef, BadPoint, BadMark}
use Rattle.file_grammar.specs.BoxRules.{Beside, holds_place, is_marked, is_on_grid, is_ordinal, is_way}
use Rattle.file_grammar.specs.Facts.{Fact, fact}
use Rattle.file_grammar.specs.RecordRules.{is_object_number, is_relation}
use Rattle.file_grammar.specs.RoadRules.{BanFields, RoadFields, ban_fields, is_admitted, is_number_in, makes_roads, road_fields}
use Rattle.file_grammar.specs.Sections.{Entry, Placed, text_of}
use Rattle.boxed_exact.specs.declared.block_texts.BlockTexts.{BlockTexts}
use Rattle.boxed_exact.specs.Texts.{AreTexts}
use Rattle.road_section.specs.declared.ban_rules.BanSeen.{BanSeen}
use Rattle.road_section.specs.declared.road_rules.RoadSeen.{RoadSeen}
use Rattle.road_section.specs.Held.{ban_held, road_held}
use Rattle.road_section.specs.Stops.{AreNodesSeen}

-- rising by ordinal; it holds of a number that is no ordinal
abbrev pub rises : ℕ → ℕ → Bool
rises a b = nat_le a b || not (is_ordinal a && is_ordinal b)

-- a record of an ordinal may stand behind the one before it
abbrev pub may_follow : Option ℕ → ℕ → Bool
may_follow None ordinal = true
may_follow (Some before) ordinal = rises before ordinal

-- what the order of records goes by
abbrev pub key_of : Entry → ℕ
key_of entry = entry.ordinal

-- Roads.

-- the number is that of a text, and the rule admits the text
abbrev pub names_value : List Rule → List (Placed (List ℕ)) → ℕ → ℕ → Bool
names_value rules texts rule value = nat_le value (length texts) && is_admitted rules rule (text_of texts value)

-- the rules of a road, of which some were asked before
abbrev pub road_facts_by : Beside → (follows value : Bool) → (at ordinal : ℕ) → RoadFields → (numbered on_grid : Bool) → ℕ → List Fact
road_facts_by beside follows value at ordinal f numbered on_grid count =
    fact at BadOrder follows
    ∷ fact f.step.at BadId (is_ordinal ordinal && is_way ordinal)
    ∷ fact f.step.at BadMark (is_marked beside.marks ordinal)
    ∷ fact f.rule.at BadRef (option_map_or makes_roads (slice_get beside.rules f.rule.value) false)
    ∷ fact f.value.at BadRef value
    ∷ fact f.direction.at BadRef (nat_le f.direction.value 2)
    ∷ fact f.triples.at BadId numbered
    ∷ fact f.triples.at BadPoint (on_grid && nat_le 2 count)
    ∷ []

-- the rules of a road as it was seen, in a block with these texts
abbrev pub road_seen_facts : Beside → List (Placed (List ℕ)) → Option ℕ → RoadSeen → List Fact
road_seen_facts beside texts before seen =
    road_facts_by beside (may_follow before seen.ordinal) (names_value beside.rules texts seen.fields.rule.value seen.fields.value.value) seen.at seen.ordinal
    (road_held seen.fields []) seen.nodes.numbered seen.nodes.on_grid seen.nodes.count

-- the road was seen so
pub record IsRoadSeen (holder : Rect) (entry : Entry) (seen : RoadSeen) : Type 0 where
  pub at : seen.at ≡ entry.at
  pub ordinal : seen.ordinal ≡ entry.ordinal
  pub numbers : List ℕ
  pub fields : road_held seen.fields numbers ≡ road_fields entry.fields
  pub nodes : AreNodesSeen holder numbers seen.nodes

-- the rules of a road that is good, but that its nodes are
pub record IsGoodRoad (beside : Beside) (texts : BlockTexts) (before : Option ℕ) (ordinal rule value direction count : ℕ) : Type 0 where
  pub order : may_follow before ordinal ≡ true
  pub id : (is_ordinal ordinal && is_way ordinal) ≡ true
  pub mark : is_marked beside.marks ordinal ≡ true
  pub rule_is : option_map_or makes_roads (slice_get beside.rules rule) false ≡ true
  pub value_is : (there : List (Placed (List ℕ))) → AreTexts texts there → names_value beside.rules there rule value ≡ true
  pub direction_is : nat_le direction 2 ≡ true
  pub count_is : nat_le 2 count ≡ true

-- Restrictions.

-- the rules of a restriction, of which some were asked before
abbrev pub ban_facts_by : Beside → Bool → (texts at ordinal : ℕ) → BanFields → Bool → ℕ → List Fact
ban_facts_by beside follows texts at ordinal f on_grid count =
    fact at BadOrder follows
    ∷ fact f.step.at BadId (is_ordinal ordinal && is_relation ordinal)
    ∷ fact f.step.at BadMark (is_marked beside.marks ordinal)
    ∷ fact f.value.at BadRef (nat_le f.value.value texts)
    ∷ fact f.from.at BadId (is_number_in f.from)
    ∷ fact f.via.at BadId (is_number_in f.via)
    ∷ fact f.to.at BadId (is_number_in f.to)
    ∷ fact f.points.at BadPoint (on_grid && (count == 1))
    ∷ []

-- the rules of a restriction as it was seen, in a block with so many texts
abbrev pub ban_seen_facts : Beside → ℕ → Option ℕ → BanSeen → List Fact
ban_seen_facts beside texts before seen =
    ban_facts_by beside (may_follow before seen.ordinal) texts seen.at seen.ordinal (ban_held seen.fields []) seen.points.on_grid seen.points.count

-- the restriction was seen so
pub record IsBanSeen (holder : Rect) (entry : Entry) (seen : BanSeen) : Type 0 where
  pub at : seen.at ≡ entry.at
  pub ordinal : seen.ordinal ≡ entry.ordinal
  pub numbers : List ℕ
  pub fields : ban_held seen.fields numbers ≡ ban_fields entry.fields
  pub count : seen.points.count ≡ length (places numbers)
  pub on_grid : seen.points.on_grid ≡ list_all is_on_grid (places numbers)
  pub in_box : seen.points.in_box ≡ list_all (holds_place holder) (places numbers)

-- the rules of a restriction that is good, but that its points are on the grid
pub record IsGoodBan (beside : Beside) (texts : ℕ) (before : Option ℕ) (ordinal value from via to count : ℕ) : Type 0 where
  pub order : may_follow before ordinal ≡ true
  pub id : (is_ordinal ordinal && is_relation ordinal) ≡ true
  pub mark : is_marked beside.marks ordinal ≡ true
  pub value_is : nat_le value texts ≡ true
  pub from_is : is_object_number (unzigzag from) ≡ true
  pub via_is : is_object_number (unzigzag via) ≡ true
  pub to_is : is_object_number (unzigzag to) ≡ true
  pub count_is : (count == 1) ≡ true
