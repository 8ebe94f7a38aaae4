-- What a map is: the records of a store in order. What a question finds in it, and what overlays are.
use Rattle.std.specs.Prelude.{ℕ, ◌+◌, List, [], ◌∷◌, ◌++◌, Bool, true, false, ◌&&◌, not, nat_le, ◌==◌, if◌then◌else◌, filter, map, flat_map, bytes_eq, unwrap_or}
use Rattle.std.specs.Option.{option_map}
use Rattle.std.specs.List.{list_any, slice_get, starts_with}
use Rattle.std.specs.Ordering.{is_le, is_ne}
use Rattle.std.specs.Cmp.Lexicographic.{slice_cmp}
use Rattle.name_fold.specs.Keys.{key}
use Rattle.live_model.specs.declared.points.Point.{Point}
use Rattle.live_model.specs.declared.points.Rect.{Rect}
use Rattle.live_model.specs.declared.objects.Entity.{Entity}
use Rattle.live_model.specs.declared.objects.Line.{Line}
use Rattle.live_model.specs.declared.rules.Rule.{Rule}
use Rattle.live_model.specs.declared.addresses.AddrKind.{AddrKind}
use Rattle.live_model.specs.declared.addresses.AddrKind.TheVariants.{House}
use Rattle.live_model.specs.declared.addresses.AddrRec.{AddrRec}
use Rattle.live_model.specs.declared.records.RoadNode.{RoadNode}
use Rattle.live_model.specs.declared.records.RoadRec.{RoadRec}
use Rattle.live_model.specs.declared.records.Rec.{Rec}
use Rattle.live_model.specs.declared.records.Rec.TheVariants.{Map, Poi, Addr, Road, Ban}
use Rattle.live_model.specs.declared.queries.Query.{Query}
use Rattle.live_model.specs.declared.queries.Query.TheVariants.{View, Category, Prefix, Street as StreetQuery, Roads}
use Rattle.live_model.specs.declared.rows.SegRow.{SegRow}
use Rattle.live_model.specs.declared.rows.Row.{Row}
use Rattle.live_model.specs.declared.rows.Row.TheVariants.{Map as MapRow, Poi as PoiRow, Addr as AddrRow, Seg as SegmentRow, Ban as BanRow}
use Rattle.live_model.specs.Ids.{Id}
use Rattle.live_model.specs.Points.{is_inside, overlaps}
use Rattle.live_model.specs.Stores.{apply}
use Rattle.live_model.specs.Closures.{same_id, rising_ids}
use Rattle.live_model.specs.Geometry.{box_of}
use Rattle.live_model.specs.Records.{records, record_cmp, record_id}

-- The map.

-- the records of all objects of a store, in order
abbrev pub map_of : List Rule → List Entity → List Rec
map_of rules store = flat_map (λ e. records rules store e.id) store

-- the changes of each publication in turn
abbrev pub published : List Entity → List (List Line) → List Entity
published store [] = store
published store (lines ∷ history) = published (apply store lines) history

-- the map made anew from the lines of a base and of each publication after it
abbrev pub rebuilt : List Rule → List Line → List (List Line) → List Rec
rebuilt rules base history = map_of rules (published (apply [] base) history)

-- The rows of one record.

-- a row, where it is wanted
abbrev pub row_if : Bool → Row → List Row
row_if b row = if b then row ∷ [] else []

-- the bounding box of the points meets the rectangle
abbrev pub meets : Rect → List Point → Bool
meets rect [] = false
meets rect (p ∷ ps) = overlaps (box_of p ps) rect

-- the rule of this place in the table is shown at the zoom
abbrev pub is_shown : List Rule → ℕ → ℕ → Bool
is_shown rules zoom place = unwrap_or (option_map (λ r. nat_le r.zoom zoom) (slice_get rules place)) false

-- a place or a street
abbrev pub is_named_place : AddrKind → Bool
is_named_place House = false
is_named_place kind = true

-- a house
abbrev pub is_house : AddrKind → Bool
is_house House = true
is_house kind = false

-- the part of a road from a node to the next one
abbrev pub segment : RoadRec → ℕ → RoadNode → RoadNode → SegRow
segment road index a b = record { id = road.id; index = index; a = a; b = b; dir = road.dir; value = road.value }

-- the segments whose bounding box meets the rectangle, where they are counted from `index` on
abbrev pub segments_in : Rect → RoadRec → ℕ → List RoadNode → List Row
segments_in rect road index (a ∷ b ∷ nodes) =
    row_if (meets rect (a.point ∷ b.point ∷ [])) (SegmentRow (segment road index a b)) ++ segments_in rect road (index + 1) (b ∷ nodes)
segments_in rect road index nodes = []

-- a place or a street whose key begins with this one
abbrev pub begins_with : List ℕ → AddrRec → Bool
begins_with text a = is_named_place a.kind && starts_with (λ c d. c == d) (key a.name) (key text)

-- a house of a street with this key
abbrev pub is_house_of : List ℕ → AddrRec → Bool
is_house_of street a = is_house a.kind && bytes_eq (key a.name) (key street)

-- the rows that a record gives to a question
abbrev pub rows : List Rule → Query → Rec → List Row
rows rules (View rect zoom) (Map m) = row_if (is_shown rules zoom m.rule && meets rect m.points) (MapRow m)
rows rules (Category category rect) (Poi p) = row_if (bytes_eq p.category category && is_inside rect p.point) (PoiRow p)
rows rules (Prefix text) (Addr a) = row_if (begins_with text a) (AddrRow a)
rows rules (StreetQuery text) (Addr a) = row_if (is_house_of text a) (AddrRow a)
rows rules (Roads rect) (Road road) = segments_in rect road 0 road.nodes
rows rules (Roads rect) (Ban b) = row_if (is_inside rect b.point) (BanRow b)
rows rules query r = []

-- the rows of the records of a map, in order
abbrev pub answer : List Rule → Query → List Rec → List Row
answer rules query records = flat_map (rows rules query) records

-- Records in order.

-- before the first record that does not come before it
abbrev pub placed : Rec → List Rec → List Rec
placed x [] = x ∷ []
placed x (y ∷ ys) = if is_le (record_cmp x y) then x ∷ y ∷ ys else y ∷ placed x ys

-- the records sorted; equal ones stay as they stand
abbrev pub in_order : List Rec → List Rec
in_order [] = []
in_order (x ∷ xs) = placed x (in_order xs)

-- Overlays.

-- the objects whose records are others than before, and their records now
pub record Overlay : Type 0 where
  pub marks : List Id
  pub records : List Rec

-- the overlay decides on this object
abbrev pub is_mark : Overlay → Id → Bool
is_mark o id = list_any (λ mark. same_id mark id) o.marks

-- the ids of the objects of two stores, rising, each once
abbrev pub ids_of_both : List Entity → List Entity → List Id
ids_of_both before after = rising_ids (map (λ e. e.id) before ++ map (λ e. e.id) after)

-- the object gives other records in the one store than in the other
abbrev pub differs : List Rule → List Entity → List Entity → Id → Bool
differs rules before after id = is_ne (slice_cmp record_cmp (records rules before id) (records rules after id))

-- the objects whose records are not the same in both, rising
abbrev pub changed : List Rule → List Entity → List Entity → List Id
changed rules before after = filter (differs rules before after) (ids_of_both before after)

-- what leads from the map of one store to that of another
abbrev pub overlay_between : List Rule → List Entity → List Entity → Overlay
overlay_between rules before after =
    record { marks = changed rules before after; records = flat_map (records rules after) (changed rules before after) }

-- what lines change in the map of a store
abbrev pub overlay : List Rule → List Entity → List Line → Overlay
overlay rules store lines = overlay_between rules store (apply store lines)

-- a map under an overlay: its records of other objects than the marks, with those of the overlay
abbrev pub over : List Rec → Overlay → List Rec
over records o = in_order (filter (λ r. not (is_mark o (record_id r))) records ++ o.records)

-- a map under overlays, the last on top
abbrev pub laid : List Rec → List Overlay → List Rec
laid records [] = records
laid records (o ∷ os) = laid (over records o) os

-- Folds.

-- the records that an overlay has for an object
abbrev pub records_for : Overlay → Id → List Rec
records_for o id = filter (λ r. same_id (record_id r) id) o.records

-- the records of an object by the last overlay that marks it, and these where none does
abbrev pub last_for : Id → List Rec → List Overlay → List Rec
last_for id found [] = found
last_for id found (o ∷ os) = last_for id (if is_mark o id then records_for o id else found) os

-- the objects on which some overlay decides, rising, each once
abbrev pub all_marks : List Overlay → List Id
all_marks os = rising_ids (flat_map (λ o. o.marks) os)

-- one overlay in place of several: all marks, each with its last records
abbrev pub folded : List Overlay → Overlay
folded os = record { marks = all_marks os; records = in_order (flat_map (λ mark. last_for mark [] os) (all_marks os)) }
