-- How map records are read.
use Rattle.std.specs.Prelude.{ℕ, List}
use Rattle.std.proofs.Common.{refl}
use Rattle.std.proofs.lemmas.Bool.{and_parts}
use Rattle.live_model.specs.declared.records.MapRec.{MapRec}
use Rattle.live_model.specs.Ids.{Id}
use Rattle.file_grammar.specs.BoxRules.{is_ordinal}
use Rattle.file_grammar.specs.Listed.{Reading}
use Rattle.file_grammar.specs.MapRules.{is_drawn_of, map_boxing, map_fields}
use Rattle.boxed_read.specs.Records.{IsReading}
use Rattle.map_section.specs.MapLawful.{map_reads}

-- a file has one section of map records, and no groups of them
abbrev pub map_reading : List ℕ → Reading MapRec
map_reading group = map_reads

abbrev pub id_of : MapRec → Id
id_of m = m.id

-- a record is read of no more than it may be, and the rules ask for its ordinal
pub map_is_read : IsReading map_boxing map_reading id_of
map_is_read = record {
  plain = λ group block entry. refl;
  id_is = λ group block entry. refl;
  object = λ beside block prev entry all. (and_parts (is_ordinal entry.ordinal) (is_drawn_of (map_fields entry.fields).shape.value entry.ordinal) all.1.0).0;
}
