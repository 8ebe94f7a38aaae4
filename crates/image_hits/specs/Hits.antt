-- Which records of an image give rows to a question, and how many blocks are due to it.
use Rattle.std.specs.Prelude.{ℕ, List, filter, flat_map, map, sum, bytes_eq}
use Rattle.live_model.specs.declared.points.Rect.{Rect}
use Rattle.live_model.specs.declared.records.BanRec.{BanRec}
use Rattle.live_model.specs.declared.records.MapRec.{MapRec}
use Rattle.live_model.specs.declared.records.PoiRec.{PoiRec}
use Rattle.live_model.specs.declared.records.Rec.TheVariants.{Map, Poi, Road, Ban}
use Rattle.live_model.specs.declared.records.RoadRec.{RoadRec}
use Rattle.live_model.specs.declared.queries.Query.TheVariants.{View, Category, Roads}
use Rattle.file_grammar.specs.MapRules.{map_read, map_records_in}
use Rattle.file_grammar.specs.PoiRules.{group_records}
use Rattle.file_grammar.specs.RoadRules.{ban_read, bans_in, road_read, roads_in}
use Rattle.boxed_read.specs.Filters.{Hits}
use Rattle.boxed_read.specs.Meeting.{due, in_boxes}
use Rattle.map_laws.specs.Laws.{gives_rows}
use Rattle.poi_section.specs.PoiSections.{group_read}
use Rattle.obf_reader.specs.Images.{Seen, bans_of, groups_of, maps_of, roads_of}

-- the map records that are shown, and the blocks that are due
abbrev pub map_hits : Seen → Rect → ℕ → Hits MapRec
map_hits image rect zoom = record { records = filter (λ m. gives_rows image.rules (View rect zoom) (Map m)) (map_records_in (maps_of image)); blocks = due rect (in_boxes map_read (maps_of image)) }

-- the points of interest of a category, and the blocks that are due: those of the groups of the category
abbrev pub poi_hits : Seen → List ℕ → Rect → Hits PoiRec
poi_hits image category rect = record {
  records = filter (λ p. gives_rows image.rules (Category category rect) (Poi p)) (flat_map group_records (groups_of image));
  blocks = sum (map (λ g. due rect (group_read g).section) (filter (λ g. bytes_eq g.category.value category) (groups_of image)));
}

-- the roads, and the blocks that are due
abbrev pub road_hits : Seen → Rect → Hits RoadRec
road_hits image rect = record { records = filter (λ road. gives_rows image.rules (Roads rect) (Road road)) (roads_in (roads_of image)); blocks = due rect (in_boxes road_read (roads_of image)) }

-- the restrictions, and the blocks that are due
abbrev pub ban_hits : Seen → Rect → Hits BanRec
ban_hits image rect = record { records = filter (λ ban. gives_rows image.rules (Roads rect) (Ban ban)) (bans_in (bans_of image)); blocks = due rect (in_boxes ban_read (bans_of image)) }
