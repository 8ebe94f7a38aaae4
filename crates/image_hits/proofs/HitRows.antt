-- What passes a filter is what gives rows to the question.
use Rattle.std.proofs.Common.{◌≡◌, ℕ, ◌+◌, Bool, true, false, List, [], ◌∷◌, ◌++◌, map, not, refl, sym, ap, ◌∙◌, inl, inr}
use Rattle.std.specs.Prelude.{◌&&◌, ◌||◌, bytes_eq, filter, flat_map, sum}
use Rattle.std.proofs.lemmas.Bool.{cases_Bool}
use Rattle.std.proofs.lemmas.List.Elements.{filter-append}
use Rattle.live_model.specs.declared.points.Rect.{Rect}
use Rattle.live_model.specs.declared.records.BanRec.{BanRec}
use Rattle.live_model.specs.declared.records.MapRec.{MapRec}
use Rattle.live_model.specs.declared.records.PoiRec.{PoiRec}
use Rattle.live_model.specs.declared.records.Rec.TheVariants.{Map, Poi, Road, Ban}
use Rattle.live_model.specs.declared.records.RoadNode.{RoadNode}
use Rattle.live_model.specs.declared.records.RoadRec.{RoadRec}
use Rattle.live_model.specs.declared.queries.Query.TheVariants.{View, Category, Roads}
use Rattle.live_model.specs.declared.rows.Row.{Row}
use Rattle.live_model.specs.declared.rows.Row.TheVariants.{Map as MapRow, Poi as PoiRow, Seg as SegmentRow, Ban as BanRow}
use Rattle.live_model.specs.declared.rules.Rule.{Rule}
use Rattle.live_model.specs.Maps.{is_shown, meets, row_if, segment, segments_in}
use Rattle.live_model.specs.Points.{is_inside}
use Rattle.file_grammar.specs.Listed.{Reading, block_records, records_in}
use Rattle.file_grammar.specs.PoiRules.{Group, group_records, poi_read}
use Rattle.file_grammar.specs.RoadRules.{ban_read, road_read}
use Rattle.file_grammar.specs.Sections.{Block, Entry, Section}
use Rattle.map_laws.specs.Laws.{gives_rows, is_nil}
use Rattle.boxed_read.specs.Filters.{Hits, hits}
use Rattle.boxed_read.specs.Meeting.{InBoxes, due, in_boxes}
use Rattle.boxed_read.specs.Steps.{joined}
use Rattle.map_section.specs.MapLawful.{map_reads}
use Rattle.map_section.specs.MapNear.{shown_in}
use Rattle.poi_section.specs.CategoryHits.{category_hits, group_hits, joined_hits, of_category}
use Rattle.poi_section.specs.PoiNear.{placed_in}
use Rattle.poi_section.specs.PoiSections.{GroupRead, group_read}
use Rattle.road_section.specs.RoadNear.{banned_in, meets_segment, passes_by}
use Rattle.obf_reader.specs.Images.{Seen, bans_of, groups_of, maps_of, roads_of}
use Rattle.image_hits.specs.Hits.{ban_hits, map_hits, poi_hits, road_hits}

-- ---- sections

module _ {A : Type 0} (reads : Reading A) where
  joined_is : (blocks : List Block) → joined (map (block_records reads) blocks) ≡ flat_map (block_records reads) blocks
  joined_is [] = refl
  joined_is (block ∷ blocks) = ap (λ (rs : List A). block_records reads block ++ rs) (joined_is blocks)

  entries_alike : (p q : A → Bool) → ((block : Block) (entry : Entry) → p (reads block entry) ≡ q (reads block entry)) → (block : Block) (entries : List Entry) → filter p (map (reads block) entries) ≡ filter q (map (reads block) entries)
  entries_alike p q same block [] = refl
  entries_alike p q same block (entry ∷ entries) =
      let rest = entries_alike p q same block entries in
      elim (cases_Bool (q (reads block entry))) [
        | inl passes ↦ let also = same block entry ∙ passes in rw (also, passes) (ap (λ (rs : List A). reads block entry ∷ rs) rest)
        | inr fails ↦ let also = same block entry ∙ fails in rw (also, fails) rest
      ]

  -- two tests that agree on what is read keep the same
  alike : (p q : A → Bool) → ((block : Block) (entry : Entry) → p (reads block entry) ≡ q (reads block entry)) → (blocks : List Block) → filter p (flat_map (block_records reads) blocks) ≡ filter q (flat_map (block_records reads) blocks)
  alike p q same [] = refl
  alike p q same (block ∷ blocks) =
      let here : List A = block_records reads block in
      let others : List A = flat_map (block_records reads) blocks in
      filter-append p here others ∙ ap (λ (rs : List A). rs ++ filter p others) (entries_alike p q same block block.entries) ∙ ap (λ (rs : List A). filter q here ++ rs) (alike p q same blocks)
      ∙ sym (filter-append q here others)

  abbrev as_hits : ℕ → List A → Hits A
  as_hits blocks records = record { records = records; blocks = blocks }

  -- the hits of a section, where the tests agree
  section_hits : (p q : A → Bool) → ((block : Block) (entry : Entry) → p (reads block entry) ≡ q (reads block entry)) → (rect : Rect) (section : Section)
      → hits p rect (in_boxes reads section) ≡ record { records = filter q (records_in reads section); blocks = due rect (in_boxes reads section) }
  section_hits p q same rect section =
      ap (λ (rs : List A). as_hits (due rect (in_boxes reads section)) (filter p rs)) (joined_is section.blocks)
      ∙ ap (as_hits (due rect (in_boxes reads section))) (alike p q same section.blocks)

  pub found_hits : (p q : A → Bool) → ((block : Block) (entry : Entry) → p (reads block entry) ≡ q (reads block entry)) → (rect : Rect) (section : Section) (boxed : InBoxes A) (found : Hits A)
      → boxed ≡ in_boxes reads section → found ≡ hits p rect boxed → found ≡ record { records = filter q (records_in reads section); blocks = due rect (in_boxes reads section) }
  found_hits p q same rect section boxed found e is = is ∙ ap (hits p rect) e ∙ section_hits p q same rect section

some_if : (b : Bool) (row : Row) → b ≡ not (is_nil (row_if b row))
some_if true row = refl
some_if false row = refl

-- ---- the map

pub maps_hit : (image : Seen) (rect : Rect) (zoom : ℕ) (boxed : InBoxes MapRec) (found : Hits MapRec) → boxed ≡ in_boxes map_reads (maps_of image) → found ≡ hits (shown_in image.rules rect zoom) rect boxed → found ≡ map_hits image rect zoom
maps_hit image rect zoom boxed found e is =
    found_hits map_reads (shown_in image.rules rect zoom) (λ m. gives_rows image.rules (View rect zoom) (Map m))
    (λ block entry. some_if (shown_in image.rules rect zoom (map_reads block entry)) (MapRow (map_reads block entry))) rect (maps_of image) boxed found e is

-- ---- roads and restrictions

has_segment : (rect : Rect) (road : RoadRec) (index : ℕ) (nodes : List RoadNode) → meets_segment rect nodes ≡ not (is_nil (segments_in rect road index nodes))
has_segment rect road index [] = refl
has_segment rect road index (a ∷ []) = refl
has_segment rect road index (a ∷ b ∷ nodes) =
    elim (cases_Bool (meets rect (a.point ∷ b.point ∷ []))) [
      | inl passes ↦ rw passes refl
      | inr fails ↦ rw fails (has_segment rect road (index + 1) (b ∷ nodes))
    ]

pub roads_hit : (image : Seen) (rect : Rect) (boxed : InBoxes RoadRec) (found : Hits RoadRec) → boxed ≡ in_boxes road_read (roads_of image) → found ≡ hits (passes_by rect) rect boxed → found ≡ road_hits image rect
roads_hit image rect boxed found e is =
    found_hits road_read (passes_by rect) (λ road. gives_rows image.rules (Roads rect) (Road road))
    (λ block entry. has_segment rect (road_read block entry) 0 (road_read block entry).nodes) rect (roads_of image) boxed found e is

pub bans_hit : (image : Seen) (rect : Rect) (boxed : InBoxes BanRec) (found : Hits BanRec) → boxed ≡ in_boxes ban_read (bans_of image) → found ≡ hits (banned_in rect) rect boxed → found ≡ ban_hits image rect
bans_hit image rect boxed found e is =
    found_hits ban_read (banned_in rect) (λ ban. gives_rows image.rules (Roads rect) (Ban ban))
    (λ block entry. some_if (is_inside rect (ban_read block entry).point) (BanRow (ban_read block entry))) rect (bans_of image) boxed found e is

-- ---- points of interest

module _ (rules : List Rule) (category : List ℕ) (rect : Rect) where
  abbrev gives : PoiRec → Bool
  gives p = gives_rows rules (Category category rect) (Poi p)

  abbrev is_of : Group → Bool
  is_of group = bytes_eq group.category.value category

  in_category : (text : List ℕ) → bytes_eq text category ≡ true → (block : Block) (entry : Entry) → placed_in rect (poi_read text block entry) ≡ gives (poi_read text block entry)
  in_category text same block entry = rw same (some_if (is_inside rect (poi_read text block entry).point) (PoiRow (poi_read text block entry)))

  elsewhere : (text : List ℕ) → bytes_eq text category ≡ false → (block : Block) (entry : Entry) → gives (poi_read text block entry) ≡ false
  elsewhere text other block entry = rw other refl

  nothing : (ps : List PoiRec) → filter (λ (p : PoiRec). false) ps ≡ []
  nothing [] = refl
  nothing (p ∷ ps) = nothing ps

  none_given : (group : Group) → is_of group ≡ false → filter gives (group_records group) ≡ []
  none_given group other =
      alike (poi_read group.category.value) gives (λ (p : PoiRec). false) (elsewhere group.category.value other) group.section.blocks ∙ nothing (group_records group)

  all_given : (group : Group) → is_of group ≡ true → (group_hits rect (group_read group)).records ≡ filter gives (group_records group)
  all_given group same = ap (λ (found : Hits PoiRec). found.records) (section_hits (poi_read group.category.value) (placed_in rect) gives (in_category group.category.value same) rect group.section)

  groups_records : (groups : List Group) → (category_hits category rect (map group_read groups)).records ≡ filter gives (flat_map group_records groups)
  groups_records [] = refl
  groups_records (group ∷ groups) =
      let rest = groups_records groups in
      let split = filter-append gives (group_records group) (flat_map group_records groups) in
      elim (cases_Bool (is_of group)) [
        | inl same ↦ rw same
            (ap (λ (rs : List PoiRec). rs ++ (category_hits category rect (map group_read groups)).records) (all_given group same) ∙ ap (λ (rs : List PoiRec). filter gives (group_records group) ++ rs) rest ∙ sym split)
        | inr other ↦ rw other (rest ∙ sym (split ∙ ap (λ (rs : List PoiRec). rs ++ filter gives (flat_map group_records groups)) (none_given group other)))
      ]

  groups_due : (groups : List Group) → map (λ (h : Hits PoiRec). h.blocks) (map (group_hits rect) (of_category category (map group_read groups))) ≡ map (λ (g : Group). due rect (group_read g).section) (filter is_of groups)
  groups_due [] = refl
  groups_due (group ∷ groups) =
      let rest = groups_due groups in
      elim (cases_Bool (is_of group)) [
        | inl same ↦ rw same (ap (λ (ns : List ℕ). due rect (group_read group).section ∷ ns) rest)
        | inr other ↦ rw other rest
      ]

  abbrev found_in : List Group → Hits PoiRec
  found_in groups = record { records = filter gives (flat_map group_records groups); blocks = sum (map (λ (g : Group). due rect (group_read g).section) (filter is_of groups)) }

  abbrev made_of : List ℕ → List PoiRec → Hits PoiRec
  made_of blocks records = record { records = records; blocks = sum blocks }

  groups_hit : (groups : List Group) → category_hits category rect (map group_read groups) ≡ found_in groups
  groups_hit groups =
      ap (made_of (map (λ (h : Hits PoiRec). h.blocks) (map (group_hits rect) (of_category category (map group_read groups))))) (groups_records groups)
      ∙ ap (λ (ns : List ℕ). made_of ns (filter gives (flat_map group_records groups))) (groups_due groups)

pub pois_hit : (image : Seen) (category : List ℕ) (rect : Rect) (groups : List GroupRead) (found : Hits PoiRec) → groups ≡ map group_read (groups_of image) → found ≡ category_hits category rect groups → found ≡ poi_hits image category rect
pois_hit image category rect groups found e is = is ∙ ap (category_hits category rect) e ∙ groups_hit image.rules category rect (groups_of image)
