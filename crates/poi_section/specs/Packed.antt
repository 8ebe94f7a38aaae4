-- How points of interest are packed.
use Rattle.std.specs.Prelude.{ℕ, suc, List, [], ◌∷◌, ◌++◌, map, flat_map, filter, if◌then◌else◌}
use Rattle.std.specs.Ordering.{is_eq}
use Rattle.std.specs.declared.cmp.Ordering.{Ordering}
use Rattle.live_model.specs.declared.records.PoiRec.{PoiRec}
use Rattle.live_model.specs.Ids.{IsId, ordinal}
use Rattle.live_model.specs.Geometry.{box_of_point}
use Rattle.live_model.specs.Points.{IsInGrid}
use Rattle.live_model.specs.Records.{poi_cmp}
use Rattle.ordered_lists.specs.Ordered.{put_all}
use Rattle.obf_wire.specs.Fields.{number_field, section, short_field}
use Rattle.coord_delta.specs.Steps.{point_list}
use Rattle.text_table.specs.Tables.{text_cmp}
use Rattle.boxed_write.specs.Packed.{Packing, packed, text_number}

-- Records of one category.

-- the number of the name, and the point
abbrev pub poi_fields : List (List ℕ) → PoiRec → List ℕ
poi_fields texts p = number_field 2 (text_number texts p.name) ++ short_field 3 (point_list (p.point ∷ []))

-- points of interest of one category
abbrev pub poi_packing : Packing PoiRec
poi_packing = record { cmp = poi_cmp; ordinal = λ p. ordinal p.id; box = λ p. box_of_point p.point; texts = λ p. p.name ∷ []; fields = poi_fields }

-- the number of the object has magnitude at most 2^48, and the point is in the grid
abbrev pub IsPlaced : PoiRec → Type 0
IsPlaced p = IsId p.id × IsInGrid p.point

-- Groups.

-- the categories of records, each once, rising by their bytes
abbrev pub categories_of : List PoiRec → List (List ℕ)
categories_of records = put_all text_cmp (λ c. c) [] (map (λ p. p.category) records)

-- the records of a category
abbrev pub of_category : List ℕ → List PoiRec → List PoiRec
of_category category records = filter (λ p. is_eq (text_cmp category p.category)) records

-- a group: its category, and its records in boxes
abbrev pub group : List ℕ → List PoiRec → List ℕ
group category records = section 1 (short_field 1 category ++ section 2 (packed poi_packing records))

-- the bytes of the section of these records: a group for each category
unfoldable pub packed_pois : List PoiRec → List ℕ
packed_pois records = flat_map (λ category. group category (of_category category records)) (categories_of records)

-- Records in the order of their categories.

-- by category alone
abbrev pub category_cmp : PoiRec → PoiRec → Ordering
category_cmp a b = text_cmp a.category b.category

-- how many records at the front are of this category
abbrev pub run_of : List ℕ → List PoiRec → ℕ
run_of category [] = 0
run_of category (p ∷ ps) = if is_eq (text_cmp category p.category) then suc (run_of category ps) else 0
