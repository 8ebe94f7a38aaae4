-- What the cursors over an image find is what gives rows, and the blocks that are due to them are those of its file.
use Rattle.std.proofs.Common.{◌≡◌, ◌+◌, ℕ, Bool, true, false, List, [], ◌∷◌, ◌++◌, length, map, not, Option, Some, Result, Ok, refl, sym, ap, ◌∙◌, inl, inr}
use Rattle.std.specs.Prelude.{filter, flat_map, bytes_eq, sum}
use Rattle.std.proofs.lemmas.Bool.{cases_Bool}
use Rattle.std.proofs.lemmas.List.{append-nil, length-map}
use Rattle.std.proofs.lemmas.List.Elements.{filter-append}
use Rattle.name_fold.specs.Keys.{key}
use Rattle.live_model.specs.declared.addresses.AddrRec.{AddrRec}
use Rattle.live_model.specs.declared.points.Rect.{Rect}
use Rattle.live_model.specs.declared.queries.Query.{Query}
use Rattle.live_model.specs.declared.queries.Query.TheVariants.{View, Category, Prefix, Street, Roads}
use Rattle.live_model.specs.declared.records.BanRec.{BanRec}
use Rattle.live_model.specs.declared.records.MapRec.{MapRec}
use Rattle.live_model.specs.declared.records.PoiRec.{PoiRec}
use Rattle.live_model.specs.declared.records.Rec.{Rec}
use Rattle.live_model.specs.declared.records.Rec.TheVariants.{Map, Poi, Addr, Road, Ban}
use Rattle.live_model.specs.declared.records.RoadRec.{RoadRec}
use Rattle.live_model.specs.declared.rows.Row.{Row}
use Rattle.live_model.specs.declared.rows.Row.TheVariants.{Addr as AddrRow}
use Rattle.live_model.specs.Maps.{begins_with, is_house_of, row_if, rows}
use Rattle.obf_wire.specs.declared.file.FileBreak.{FileBreak}
use Rattle.file_grammar.specs.declared.parts.Boxed.TheVariants.{Map as MapPart}
use Rattle.file_grammar.specs.declared.parts.Part.TheVariants.{Addresses as AddressesPart, Boxes, Pois, Routing}
use Rattle.file_grammar.specs.declared.parts.Version.{Version}
use Rattle.file_grammar.specs.AddressRules.{address_records_in, addresses_of}
use Rattle.file_grammar.specs.Files.{FileParts}
use Rattle.file_grammar.specs.MapRules.{map_read, map_records_in}
use Rattle.file_grammar.specs.Messages.{Fields}
use Rattle.file_grammar.specs.PoiRules.{Group, group_records, groups_in}
use Rattle.file_grammar.specs.Readings.{message_at}
use Rattle.file_grammar.specs.RoadRules.{ban_read, bans_in, road_read, roads_in, routing_in}
use Rattle.file_grammar.specs.Sections.{Section, section_in}
use Rattle.boxed_read.specs.Filters.{Hits}
use Rattle.boxed_read.specs.Meeting.{due, in_boxes}
use Rattle.boxed_read.specs.Records.{fields_read}
use Rattle.boxed_read.specs.Steps.{Coming, joined, still_left}
use Rattle.poi_section.specs.PoiSections.{group_read}
use Rattle.addr_read.specs.Finding.{due_blocks, has_prefix, has_street}
use Rattle.addr_read.specs.Records.{address_blocks}
use Rattle.map_laws.specs.Laws.{gives_rows, is_nil}
use Rattle.obf_reader.specs.Images.{IsImage, Seen, addresses_window, bans_of, groups_of, map_window, maps_of, pois_window, roads_of, routing_window}
use Rattle.obf_reader.specs.Overlays.{parts_of}
use Rattle.obf_reader.proofs.Overlays.{parts_are}
use Rattle.image_hits.specs.Hits.{ban_hits, map_hits, poi_hits, road_hits}
use Rattle.query_merge.specs.Gathering.{found_in, stored_in}
use Rattle.query_merge.specs.Hits.{addresses_left}
use Rattle.query_merge.specs.Questions.{due_in}

-- ---- records of five classes

module _ (p : Rec → Bool) where
  none : {A : Type 0} (f : A → Rec) (xs : List A) → ((x : A) → p (f x) ≡ false) → filter p (map f xs) ≡ []
  none f [] fails = refl
  none f (x ∷ xs) fails = rw (fails x) (none f xs fails)

  own : {A : Type 0} (f : A → Rec) (q : A → Bool) (xs : List A) → ((x : A) → p (f x) ≡ q x) → filter p (map f xs) ≡ map f (filter q xs)
  own f q [] same = refl
  own f q (x ∷ xs) same =
      elim (cases_Bool (q x)) [
        | inl passes ↦ let also = same x ∙ passes in rw (also, passes) (ap (λ (rs : List Rec). f x ∷ rs) (own f q xs same))
        | inr fails ↦ let also = same x ∙ fails in rw (also, fails) (own f q xs same)
      ]

  -- class by class
  by_class : (ms : List MapRec) (ads : List AddrRec) (ps : List PoiRec) (rs : List RoadRec) (bs : List BanRec) (m a o r b : List Rec)
      → filter p (map Map ms) ≡ m → filter p (map Addr ads) ≡ a → filter p (map Poi ps) ≡ o → filter p (map Road rs) ≡ r → filter p (map Ban bs) ≡ b
      → filter p (map Map ms ++ map Addr ads ++ map Poi ps ++ map Road rs ++ map Ban bs) ≡ m ++ a ++ o ++ r ++ b
  by_class ms ads ps rs bs m a o r b em ea eo er eb =
      filter-append p (map Map ms ++ map Addr ads ++ map Poi ps ++ map Road rs) (map Ban bs)
      ∙ (λ i. filter-append p (map Map ms ++ map Addr ads ++ map Poi ps) (map Road rs) i ++ eb i)
      ∙ (λ i. filter-append p (map Map ms ++ map Addr ads) (map Poi ps) i ++ er i ++ b)
      ∙ (λ i. filter-append p (map Map ms) (map Addr ads) i ++ eo i ++ r ++ b)
      ∙ (λ i. em i ++ ea i ++ o ++ r ++ b)

-- nothing at the end, some times
two_nils : (rs : List Rec) → rs ++ [] ++ [] ≡ rs
two_nils rs = append-nil (rs ++ []) ∙ append-nil rs

three_nils : (rs : List Rec) → rs ++ [] ++ [] ++ [] ≡ rs
three_nils rs = append-nil (rs ++ [] ++ []) ∙ two_nils rs

four_nils : (rs : List Rec) → rs ++ [] ++ [] ++ [] ++ [] ≡ rs
four_nils rs = append-nil (rs ++ [] ++ [] ++ []) ∙ three_nils rs

wanted : (b : Bool) (row : Row) → not (is_nil (row_if b row)) ≡ b
wanted true row = refl
wanted false row = refl

-- ---- the parts of the file of an image

there : {X : Type 0} (of : Fields → X) (r : Result Fields FileBreak) (fields : Fields) → r ≡ Ok fields → of fields ≡ of (fields_read r)
there of r fields e = ap (λ (r : Result Fields FileBreak). of (fields_read r)) (sym e)

module _ (image : Seen) (i : IsImage image) where
  abbrev parts : FileParts
  parts = i.holds.parts

  has_parts : parts_of image ≡ Some parts
  has_parts = parts_are image i

  map_part : {X : Type 0} (of : Section → X) → of (section_in parts.map) ≡ of (maps_of image)
  map_part of = there (λ (fields : Fields). of (section_in fields)) (message_at (Boxes MapPart) (map_window image)) parts.map i.holds.sections.map

  poi_part : {X : Type 0} (of : List Group → X) → of (groups_in parts.pois) ≡ of (groups_of image)
  poi_part of = there (λ (fields : Fields). of (groups_in fields)) (message_at Pois (pois_window image)) parts.pois i.holds.sections.pois

  road_part : {X : Type 0} (of : Section → Section → X) → of (routing_in parts.roads).roads (routing_in parts.roads).bans ≡ of (roads_of image) (bans_of image)
  road_part of =
      there (λ (fields : Fields). of (routing_in fields).roads (routing_in fields).bans) (message_at Routing (routing_window image)) parts.roads i.holds.sections.roads

  address_part : message_at (AddressesPart image.version) (addresses_window image) ≡ Ok parts.addresses
  address_part = ap (λ (v : Version). message_at (AddressesPart v) (addresses_window image)) i.holds.version ∙ i.holds.sections.addresses

  -- what gives rows, class by class
  module _ (query : Query) where
    abbrev gives : Rec → Bool
    gives = gives_rows image.rules query

    by_classes : (m a o r b : List Rec) → filter gives (map Map (map_records_in (section_in parts.map))) ≡ m → filter gives (map Addr (address_records_in (addresses_of parts.addresses))) ≡ a
        → filter gives (map Poi (flat_map group_records (groups_in parts.pois))) ≡ o → filter gives (map Road (roads_in (routing_in parts.roads).roads)) ≡ r
        → filter gives (map Ban (bans_in (routing_in parts.roads).bans)) ≡ b → found_in query image ≡ m ++ a ++ o ++ r ++ b
    by_classes m a o r b em ea eo er eb =
        ap (λ (p : Option FileParts). filter gives (stored_in p)) has_parts
        ∙ by_class gives (map_records_in (section_in parts.map)) (address_records_in (addresses_of parts.addresses)) (flat_map group_records (groups_in parts.pois))
        (roads_in (routing_in parts.roads).roads) (bans_in (routing_in parts.roads).bans) m a o r b em ea eo er eb

    due_there : due_in query (parts_of image) ≡ due_in query (Some parts)
    due_there = ap (due_in query) has_parts

  pub maps_found : (rect : Rect) (zoom : ℕ) (hits : Hits MapRec) → hits ≡ map_hits image rect zoom → map Map hits.records ≡ found_in (View rect zoom) image
  maps_found rect zoom hits is =
      let q : Query = View rect zoom in
      let shown : MapRec → Bool = λ m. not (is_nil (rows image.rules q (Map m))) in
      ap (λ (h : Hits MapRec). map Map h.records) is
      ∙ sym (map_part (λ (s : Section). map Map (filter shown (map_records_in s))))
      ∙ sym (four_nils (map Map (filter shown (map_records_in (section_in parts.map)))))
      ∙ sym (by_classes q (map Map (filter shown (map_records_in (section_in parts.map)))) [] [] [] []
      (own (gives q) Map shown (map_records_in (section_in parts.map)) (λ m. refl))
      (none (gives q) Addr (address_records_in (addresses_of parts.addresses)) (λ a. refl)) (none (gives q) Poi (flat_map group_records (groups_in parts.pois)) (λ o. refl))
      (none (gives q) Road (roads_in (routing_in parts.roads).roads) (λ r. refl)) (none (gives q) Ban (bans_in (routing_in parts.roads).bans) (λ b. refl)))

  pub maps_due : (rect : Rect) (zoom : ℕ) (hits : Hits MapRec) → hits ≡ map_hits image rect zoom → hits.blocks ≡ due_in (View rect zoom) (parts_of image)
  maps_due rect zoom hits is = ap (λ (h : Hits MapRec). h.blocks) is ∙ sym (due_there (View rect zoom) ∙ map_part (λ (s : Section). due rect (in_boxes map_read s)))

  pub pois_found : (category : List ℕ) (rect : Rect) (hits : Hits PoiRec) → hits ≡ poi_hits image category rect → map Poi hits.records ≡ found_in (Category category rect) image
  pois_found category rect hits is =
      let q : Query = Category category rect in
      let given : PoiRec → Bool = λ o. not (is_nil (rows image.rules q (Poi o))) in
      ap (λ (h : Hits PoiRec). map Poi h.records) is
      ∙ sym (poi_part (λ (gs : List Group). map Poi (filter given (flat_map group_records gs))))
      ∙ sym (two_nils (map Poi (filter given (flat_map group_records (groups_in parts.pois)))))
      ∙ sym (by_classes q [] [] (map Poi (filter given (flat_map group_records (groups_in parts.pois)))) [] []
      (none (gives q) Map (map_records_in (section_in parts.map)) (λ m. refl)) (none (gives q) Addr (address_records_in (addresses_of parts.addresses)) (λ a. refl))
      (own (gives q) Poi given (flat_map group_records (groups_in parts.pois)) (λ o. refl))
      (none (gives q) Road (roads_in (routing_in parts.roads).roads) (λ r. refl)) (none (gives q) Ban (bans_in (routing_in parts.roads).bans) (λ b. refl)))

  pub pois_due : (category : List ℕ) (rect : Rect) (hits : Hits PoiRec) → hits ≡ poi_hits image category rect → hits.blocks ≡ due_in (Category category rect) (parts_of image)
  pois_due category rect hits is =
      ap (λ (h : Hits PoiRec). h.blocks) is
      ∙ sym (due_there (Category category rect) ∙ poi_part (λ (gs : List Group). sum (map (λ (g : Group). due rect (group_read g).section) (filter (λ (g : Group). bytes_eq g.category.value category) gs))))

  pub roads_found : (rect : Rect) (roads : Hits RoadRec) (bans : Hits BanRec) → roads ≡ road_hits image rect → bans ≡ ban_hits image rect → map Road roads.records ++ map Ban bans.records ≡ found_in (Roads rect) image
  roads_found rect roads bans are also =
      let q : Query = Roads rect in
      let passed : RoadRec → Bool = λ r. not (is_nil (rows image.rules q (Road r))) in
      let banned : BanRec → Bool = λ b. not (is_nil (rows image.rules q (Ban b))) in
      (λ j. map Road (are j).records ++ map Ban (also j).records)
      ∙ sym (road_part (λ (r b : Section). map Road (filter passed (roads_in r)) ++ map Ban (filter banned (bans_in b))))
      ∙ sym (by_classes q [] [] [] (map Road (filter passed (roads_in (routing_in parts.roads).roads))) (map Ban (filter banned (bans_in (routing_in parts.roads).bans)))
      (none (gives q) Map (map_records_in (section_in parts.map)) (λ m. refl)) (none (gives q) Addr (address_records_in (addresses_of parts.addresses)) (λ a. refl))
      (none (gives q) Poi (flat_map group_records (groups_in parts.pois)) (λ o. refl))
      (own (gives q) Road passed (roads_in (routing_in parts.roads).roads) (λ r. refl))
      (own (gives q) Ban banned (bans_in (routing_in parts.roads).bans) (λ b. refl)))

  pub roads_due : (rect : Rect) (roads : Hits RoadRec) (bans : Hits BanRec) → roads ≡ road_hits image rect → bans ≡ ban_hits image rect → roads.blocks + bans.blocks ≡ due_in (Roads rect) (parts_of image)
  roads_due rect roads bans are also =
      (λ j. (are j).blocks + (also j).blocks) ∙ sym (due_there (Roads rect) ∙ road_part (λ (r b : Section). due rect (in_boxes road_read r) + due rect (in_boxes ban_read b)))

  -- ---- addresses

  module _ (query : Query) (test : AddrRec → Bool) (same : (a : AddrRec) → not (is_nil (rows image.rules query (Addr a))) ≡ test a)
      (maps : (m : MapRec) → gives query (Map m) ≡ false) (pois : (o : PoiRec) → gives query (Poi o) ≡ false) (roads : (r : RoadRec) → gives query (Road r) ≡ false)
      (bans : (b : BanRec) → gives query (Ban b) ≡ false) where
    addresses_found : found_in query image ≡ map Addr (filter test (address_records_in (addresses_of parts.addresses)))
    addresses_found =
        by_classes query [] (map Addr (filter test (address_records_in (addresses_of parts.addresses)))) [] [] []
        (none (gives query) Map (map_records_in (section_in parts.map)) maps)
        (own (gives query) Addr test (address_records_in (addresses_of parts.addresses)) same)
        (none (gives query) Poi (flat_map group_records (groups_in parts.pois)) pois) (none (gives query) Road (roads_in (routing_in parts.roads).roads) roads)
        (none (gives query) Ban (bans_in (routing_in parts.roads).bans) bans)
        ∙ three_nils (map Addr (filter test (address_records_in (addresses_of parts.addresses))))

  pub prefix_found : (text k : List ℕ) (section : List (List AddrRec)) (c : Coming AddrRec) → k ≡ key text
      → ((fields : Fields) → message_at (AddressesPart image.version) (addresses_window image) ≡ Ok fields → joined section ≡ address_records_in (addresses_of fields))
      → still_left c ≡ filter (has_prefix k) (joined section) → addresses_left c ≡ found_in (Prefix text) image
  prefix_found text k section c is read found =
      ap (map Addr) (found ∙ (λ j. filter (has_prefix (is j)) (read parts.addresses address_part j)))
      ∙ sym (addresses_found (Prefix text) (has_prefix (key text)) (λ a. wanted (begins_with text a) (AddrRow a)) (λ m. refl) (λ o. refl) (λ r. refl) (λ b. refl))

  pub street_found : (text k : List ℕ) (section : List (List AddrRec)) (c : Coming AddrRec) → k ≡ key text
      → ((fields : Fields) → message_at (AddressesPart image.version) (addresses_window image) ≡ Ok fields → joined section ≡ address_records_in (addresses_of fields))
      → still_left c ≡ filter (has_street k) (joined section) → addresses_left c ≡ found_in (Street text) image
  street_found text k section c is read found =
      ap (map Addr) (found ∙ (λ j. filter (has_street (is j)) (read parts.addresses address_part j)))
      ∙ sym (addresses_found (Street text) (has_street (key text)) (λ a. wanted (is_house_of text a) (AddrRow a)) (λ m. refl) (λ o. refl) (λ r. refl) (λ b. refl))

  named_due : (houses : Bool) (text k : List ℕ) (section : List (List AddrRec)) (c : Coming AddrRec) (test : AddrRec → Bool) → k ≡ key text
      → ((fields : Fields) → message_at (AddressesPart image.version) (addresses_window image) ≡ Ok fields → section ≡ address_blocks (addresses_of fields))
      → c ≡ record { here = []; blocks = map (filter test) (due_blocks houses k section) } → length c.blocks ≡ length (due_blocks houses (key text) (address_blocks (addresses_of parts.addresses)))
  named_due houses text k section c test is read found =
      ap (λ (c : Coming AddrRec). length c.blocks) found ∙ length-map (due_blocks houses k section) (filter test)
      ∙ (λ j. length (due_blocks houses (is j) (read parts.addresses address_part j)))

  pub prefix_due : (text k : List ℕ) (section : List (List AddrRec)) (c : Coming AddrRec) → k ≡ key text
      → ((fields : Fields) → message_at (AddressesPart image.version) (addresses_window image) ≡ Ok fields → section ≡ address_blocks (addresses_of fields))
      → c ≡ record { here = []; blocks = map (filter (has_prefix k)) (due_blocks false k section) } → length c.blocks ≡ due_in (Prefix text) (parts_of image)
  prefix_due text k section c is read found = named_due false text k section c (has_prefix k) is read found ∙ sym (due_there (Prefix text))

  pub street_due : (text k : List ℕ) (section : List (List AddrRec)) (c : Coming AddrRec) → k ≡ key text
      → ((fields : Fields) → message_at (AddressesPart image.version) (addresses_window image) ≡ Ok fields → section ≡ address_blocks (addresses_of fields))
      → c ≡ record { here = []; blocks = map (filter (has_street k)) (due_blocks true k section) } → length c.blocks ≡ due_in (Street text) (parts_of image)
  street_due text k section c is read found = named_due true text k section c (has_street k) is read found ∙ sym (due_there (Street text))
