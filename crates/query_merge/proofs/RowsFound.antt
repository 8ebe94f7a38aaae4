-- The rows of records each of which gives some are an answer.
use Rattle.std.proofs.Common.{◌≡◌, Bool, true, false, List, [], ◌∷◌, ◌++◌, not, refl, sym, ◌&&◌}
use Rattle.std.specs.Prelude.{bytes_eq, flat_map}
use Rattle.std.specs.List.{AllByRecursion}
use Rattle.live_model.specs.declared.queries.Query.{Query}
use Rattle.live_model.specs.declared.queries.Query.TheVariants.{View, Category, Prefix, Street, Roads}
use Rattle.live_model.specs.declared.records.Rec.{Rec}
use Rattle.live_model.specs.declared.records.Rec.TheVariants.{Map, Poi, Addr, Road, Ban}
use Rattle.live_model.specs.declared.rows.Row.{Row}
use Rattle.live_model.specs.declared.rows.Row.TheVariants.{Map as MapRow, Poi as PoiRow, Addr as AddrRow, Ban as BanRow}
use Rattle.live_model.specs.declared.rules.Rule.{Rule}
use Rattle.live_model.specs.Maps.{answer, begins_with, is_house_of, is_shown, meets, row_if, rows}
use Rattle.live_model.specs.Points.{is_inside}
use Rattle.map_laws.specs.Laws.{gives_rows, is_nil}
use Rattle.query_merge.specs.Rows.{rows_found}

-- a row that is wanted
one_row : (b : Bool) (row : Row) → not (is_nil (row_if b row)) ≡ true → row_if b row ≡ row ∷ []
one_row true row e = refl
one_row false row e = absurd cc

rows_are : (rules : List Rule) (query : Query) (r : Rec) → gives_rows rules query r ≡ true → rows_found query r ≡ rows rules query r
rows_are rules (View rect zoom) (Map m) e = sym (one_row (is_shown rules zoom m.rule && meets rect m.points) (MapRow m) e)
rows_are rules (Category category rect) (Poi p) e = sym (one_row (bytes_eq p.category category && is_inside rect p.point) (PoiRow p) e)
rows_are rules (Prefix text) (Addr a) e = sym (one_row (begins_with text a) (AddrRow a) e)
rows_are rules (Street text) (Addr a) e = sym (one_row (is_house_of text a) (AddrRow a) e)
rows_are rules (Roads rect) (Road road) e = refl
rows_are rules (Roads rect) (Ban b) e = sym (one_row (is_inside rect b.point) (BanRow b) e)
rows_are rules (View rect zoom) (Poi p) e = absurd cc
rows_are rules (View rect zoom) (Addr a) e = absurd cc
rows_are rules (View rect zoom) (Road road) e = absurd cc
rows_are rules (View rect zoom) (Ban b) e = absurd cc
rows_are rules (Category category rect) (Map m) e = absurd cc
rows_are rules (Category category rect) (Addr a) e = absurd cc
rows_are rules (Category category rect) (Road road) e = absurd cc
rows_are rules (Category category rect) (Ban b) e = absurd cc
rows_are rules (Prefix text) (Map m) e = absurd cc
rows_are rules (Prefix text) (Poi p) e = absurd cc
rows_are rules (Prefix text) (Road road) e = absurd cc
rows_are rules (Prefix text) (Ban b) e = absurd cc
rows_are rules (Street text) (Map m) e = absurd cc
rows_are rules (Street text) (Poi p) e = absurd cc
rows_are rules (Street text) (Road road) e = absurd cc
rows_are rules (Street text) (Ban b) e = absurd cc
rows_are rules (Roads rect) (Map m) e = absurd cc
rows_are rules (Roads rect) (Poi p) e = absurd cc
rows_are rules (Roads rect) (Addr a) e = absurd cc

pub all_rows_are : (rules : List Rule) (query : Query) (rs : List Rec) → AllByRecursion (λ r. gives_rows rules query r ≡ true) rs → flat_map (rows_found query) rs ≡ answer rules query rs
all_rows_are rules query [] all = refl
all_rows_are rules query (r ∷ rs) all = λ i. rows_are rules query r all.0 i ++ all_rows_are rules query rs all.1 i
