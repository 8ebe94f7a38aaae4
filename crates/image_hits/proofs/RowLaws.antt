-- The laws of hits.
use Rattle.std.proofs.Common.{◌≡◌, Bool, true, false, List, [], ◌∷◌, ◌++◌, map, not, Result, Ok, refl, sym, ap, ◌∙◌, inl, inr}
use Rattle.std.specs.Prelude.{filter, flat_map}
use Rattle.std.proofs.lemmas.Bool.{cases_Bool}
use Rattle.live_model.specs.declared.queries.Query.{Query}
use Rattle.live_model.specs.declared.records.Rec.{Rec}
use Rattle.live_model.specs.declared.records.Rec.TheVariants.{Map, Addr, Poi, Road, Ban}
use Rattle.live_model.specs.declared.rows.Row.{Row}
use Rattle.live_model.specs.declared.rules.Rule.{Rule}
use Rattle.live_model.specs.Maps.{answer, rows}
use Rattle.obf_wire.specs.declared.file.FileBreak.{FileBreak}
use Rattle.file_grammar.specs.declared.parts.Boxed.TheVariants.{Map as MapPart}
use Rattle.file_grammar.specs.declared.parts.Part.TheVariants.{Boxes, Pois, Routing}
use Rattle.file_grammar.specs.AddressRules.{address_records_in, addresses_of}
use Rattle.file_grammar.specs.MapRules.{map_records_in}
use Rattle.file_grammar.specs.Messages.{Fields}
use Rattle.file_grammar.specs.PoiRules.{poi_records_in}
use Rattle.file_grammar.specs.Readings.{message_at}
use Rattle.file_grammar.specs.RoadRules.{bans_in, roads_in, routing_in}
use Rattle.file_grammar.specs.Sections.{section_in}
use Rattle.boxed_read.specs.Records.{fields_read}
use Rattle.obf_reader.specs.Images.{IsImageOf, Seen, map_window, pois_window, routing_window}
use Rattle.map_laws.specs.Laws.{gives_rows, is_nil}
use Rattle.image_hits.specs.Laws.{RecordsOfImage, RowsOfHits}

no_rows : (rows : List Row) → not (is_nil rows) ≡ false → rows ≡ []
no_rows [] e = refl
no_rows (row ∷ rows) e = absurd cc

pub rows_of_hits : RowsOfHits
rows_of_hits rules query [] = refl
rows_of_hits rules query (r ∷ rs) =
    elim (cases_Bool (gives_rows rules query r)) [
      | inl some ↦ rw some (ap (λ (rest : List Row). rows rules query r ++ rest) (rows_of_hits rules query rs))
      | inr none ↦ rw none (rows_of_hits rules query rs ∙ ap (λ (own : List Row). own ++ answer rules query rs) (sym (no_rows (rows rules query r) none)))
    ]

there : (r : Result Fields FileBreak) (fields : Fields) → r ≡ Ok fields → fields ≡ fields_read r
there r fields e = ap fields_read (sym e)

pub records_of_image : RecordsOfImage
records_of_image image i =
    let p = i.parts in
    let maps = there (message_at (Boxes MapPart) (map_window image)) p.map i.sections.map in
    let pois = there (message_at Pois (pois_window image)) p.pois i.sections.pois in
    let roads = there (message_at Routing (routing_window image)) p.roads i.sections.roads in
    let made : Fields → Fields → Fields → List Rec = λ m g r.
    map Map (map_records_in (section_in m)) ++ map Addr (address_records_in (addresses_of p.addresses)) ++ map Poi (poi_records_in g) ++ map Road (roads_in (routing_in r).roads) ++ map Ban (bans_in (routing_in r).bans) in
    ap (λ (m : Fields). made m p.pois p.roads) maps ∙ ap (λ (g : Fields). made (fields_read (message_at (Boxes MapPart) (map_window image))) g p.roads) pois
    ∙ ap (made (fields_read (message_at (Boxes MapPart) (map_window image))) (fields_read (message_at Pois (pois_window image)))) roads
