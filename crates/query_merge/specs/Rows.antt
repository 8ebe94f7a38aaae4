-- The rows of records that were found.
use Rattle.std.specs.Prelude.{List, [], ◌∷◌}
use Rattle.live_model.specs.declared.queries.Query.{Query}
use Rattle.live_model.specs.declared.queries.Query.TheVariants.{Roads}
use Rattle.live_model.specs.declared.records.Rec.{Rec}
use Rattle.live_model.specs.declared.records.Rec.TheVariants.{Map, Poi, Addr, Road, Ban}
use Rattle.live_model.specs.declared.rows.Row.{Row}
use Rattle.live_model.specs.declared.rows.Row.TheVariants.{Map as MapRow, Poi as PoiRow, Addr as AddrRow, Ban as BanRow}
use Rattle.live_model.specs.Maps.{segments_in}

-- the rows of a record that gives some to the question: itself, and of a road its segments at the rectangle
abbrev pub rows_found : Query → Rec → List Row
rows_found query (Map m) = MapRow m ∷ []
rows_found query (Poi p) = PoiRow p ∷ []
rows_found query (Addr a) = AddrRow a ∷ []
rows_found query (Ban b) = BanRow b ∷ []
rows_found (Roads rect) (Road road) = segments_in rect road 0 road.nodes
rows_found query (Road road) = []
