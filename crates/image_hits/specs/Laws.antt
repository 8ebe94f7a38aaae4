-- Laws of hits.
use Rattle.std.specs.Prelude.{◌≡◌, List, flat_map, filter, map, ◌++◌}
use Rattle.live_model.specs.declared.queries.Query.{Query}
use Rattle.live_model.specs.declared.records.Rec.{Rec}
use Rattle.live_model.specs.declared.records.Rec.TheVariants.{Map, Addr, Poi, Road, Ban}
use Rattle.live_model.specs.declared.rules.Rule.{Rule}
use Rattle.live_model.specs.Maps.{answer}
use Rattle.map_laws.specs.Laws.{gives_rows}
use Rattle.file_grammar.specs.AddressRules.{address_records_in, addresses_of}
use Rattle.file_grammar.specs.Files.{FileParts, section_records}
use Rattle.file_grammar.specs.MapRules.{map_records_in}
use Rattle.file_grammar.specs.PoiRules.{group_records}
use Rattle.file_grammar.specs.RoadRules.{bans_in, roads_in}
use Rattle.obf_reader.specs.Images.{IsImageOf, Seen, bans_of, groups_of, maps_of, roads_of}

-- what gives no row may be left out
abbrev pub RowsOfHits : Type 0
RowsOfHits = (rules : List Rule) (query : Query) (records : List Rec) → answer rules query (filter (gives_rows rules query) records) ≡ answer rules query records

-- the records of the sections of an image are those of its file
abbrev pub RecordsOfImage : Type 0
RecordsOfImage = (image : Seen) (i : IsImageOf image.bytes image)
    → section_records i.parts
    ≡ map Map (map_records_in (maps_of image)) ++ map Addr (address_records_in (addresses_of i.parts.addresses)) ++ map Poi (flat_map group_records (groups_of image)) ++ map Road (roads_in (roads_of image)) ++ map Ban (bans_in (bans_of image))
