-- The points of interest of a category in a rectangle.
use Rattle.std.specs.Prelude.{ℕ, List, ◌++◌, filter, flat_map, map, sum, bytes_eq, option_to_list, Option}
use Rattle.live_model.specs.declared.points.Rect.{Rect}
use Rattle.live_model.specs.declared.records.PoiRec.{PoiRec}
use Rattle.boxed_read.specs.Filters.{Hits, hits}
use Rattle.poi_section.specs.PoiNear.{placed_in}
use Rattle.poi_section.specs.PoiSections.{GroupRead}

-- the groups of a category
abbrev pub of_category : List ℕ → List GroupRead → List GroupRead
of_category category groups = filter (λ g. bytes_eq g.category category) groups

-- what is in the rectangle of a group
abbrev pub group_hits : Rect → GroupRead → Hits PoiRec
group_hits rect g = hits (placed_in rect) rect g.section

-- the hits of several sections, one section after another
abbrev pub joined_hits : List (Hits PoiRec) → Hits PoiRec
joined_hits found = record { records = flat_map (λ h. h.records) found; blocks = sum (map (λ h. h.blocks) found) }

-- the records of the category in the rectangle, and the blocks that are due, in the order of the file
abbrev pub category_hits : List ℕ → Rect → List GroupRead → Hits PoiRec
category_hits category rect groups = joined_hits (map (group_hits rect) (of_category category groups))

-- the hits of one section, if there is one, and of those after it
abbrev pub all_hits : Option (Hits PoiRec) → List (Hits PoiRec) → Hits PoiRec
all_hits here later = joined_hits (option_to_list here ++ later)
