-- How roads and turn restrictions are read.
use Rattle.std.specs.Prelude.{◌≡◌, ℕ, List, true, Ok}
use Rattle.std.specs.List.{list_all}
use Rattle.std.proofs.Common.{refl}
use Rattle.std.proofs.lemmas.Bool.{and_parts}
use Rattle.live_model.specs.declared.records.BanRec.{BanRec}
use Rattle.live_model.specs.declared.records.RoadRec.{RoadRec}
use Rattle.live_model.specs.Ids.{Id}
use Rattle.obf_wire.specs.Fields.{Window}
use Rattle.file_grammar.specs.BoxRules.{is_ordinal, is_way}
use Rattle.file_grammar.specs.Listed.{Reading}
use Rattle.file_grammar.specs.Readings.{numbers_at}
use Rattle.file_grammar.specs.RecordRules.{is_relation}
use Rattle.file_grammar.specs.RoadRules.{Stop, ban_boxing, ban_read, road_boxing, road_read}
use Rattle.boxed_read.specs.Records.{IsReading}
use Rattle.road_section.specs.Stops.{behind, is_numbered, is_placed}

-- a file has one section of roads and one of restrictions, and no groups of them
abbrev pub road_reading : List ℕ → Reading RoadRec
road_reading group = road_read

abbrev pub ban_reading : List ℕ → Reading BanRec
ban_reading group = ban_read

abbrev pub road_id : RoadRec → Id
road_id road = road.id

abbrev pub ban_id : BanRec → Id
ban_id ban = ban.id

-- a road is read of no more than it may be, and the rules ask for its ordinal
pub road_is_read : IsReading road_boxing road_reading road_id
road_is_read = record {
  plain = λ group block entry. refl;
  id_is = λ group block entry. refl;
  object = λ beside block prev entry all. (and_parts (is_ordinal entry.ordinal) (is_way entry.ordinal) all.1.0).0;
}

-- and so is a restriction
pub ban_is_read : IsReading ban_boxing ban_reading ban_id
ban_is_read = record {
  plain = λ group block entry. refl;
  id_is = λ group block entry. refl;
  object = λ beside block prev entry all. (and_parts (is_ordinal entry.ordinal) (is_relation entry.ordinal) all.1.0).0;
}

-- the window holds steps that lead from a node to others, all with numbers of objects and on the grid
pub record HoldsStops (from : Stop) (w : Window) : Type 0 where
  pub numbers : List ℕ
  pub read : numbers_at w ≡ Ok numbers
  pub numbered : list_all is_numbered (behind from numbers) ≡ true
  pub on_grid : list_all is_placed (behind from numbers) ≡ true
