-- How points of interest are read.
use Rattle.std.proofs.Common.{refl}
use Rattle.std.proofs.lemmas.Bool.{and_parts}
use Rattle.live_model.specs.declared.records.PoiRec.{PoiRec}
use Rattle.live_model.specs.Ids.{Id}
use Rattle.file_grammar.specs.BoxRules.{is_ordinal}
use Rattle.file_grammar.specs.PoiRules.{poi_boxing, poi_read}
use Rattle.file_grammar.specs.RecordRules.{is_node_or_way}
use Rattle.boxed_read.specs.Records.{IsReading}

abbrev pub id_of : PoiRec → Id
id_of p = p.id

-- a record is read of no more than it may be, and the rules ask for its ordinal; its group is its category
pub poi_is_read : IsReading poi_boxing poi_read id_of
poi_is_read = record {
  plain = λ group block entry. refl;
  id_is = λ group block entry. refl;
  object = λ beside block prev entry all. (and_parts (is_ordinal entry.ordinal) (is_node_or_way entry.ordinal) all.1.0).0;
}
