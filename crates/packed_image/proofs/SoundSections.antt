-- What holds of each record of a section in which every rule holds.
use Rattle.std.proofs.Common.{◌≡◌, ℕ, Bool, true, false, List, [], ◌∷◌, ◌++◌, map, Option, Some, None, refl, sym, subst}
use Rattle.std.specs.Prelude.{flat_map, ◌||◌, ◌==◌, not}
use Rattle.std.specs.List.{AllByRecursion, list_any}
use Rattle.std.proofs.lemmas.Bool.{and_parts}
use Rattle.live_model.specs.declared.addresses.AddrRec.{AddrRec}
use Rattle.live_model.specs.declared.records.BanRec.{BanRec}
use Rattle.live_model.specs.declared.records.MapRec.{MapRec}
use Rattle.live_model.specs.declared.records.PoiRec.{PoiRec}
use Rattle.live_model.specs.declared.records.Rec.{Rec}
use Rattle.live_model.specs.declared.records.Rec.TheVariants.{Map, Poi, Addr, Road, Ban}
use Rattle.live_model.specs.declared.records.RoadRec.{RoadRec}
use Rattle.live_model.specs.Fits.{Fits, FitsAddress}
use Rattle.live_model.specs.Ids.{Id, ordinal}
use Rattle.live_model.specs.Records.{record_id}
use Rattle.file_grammar.specs.AddressRules.{Address, Addresses, KeyedList, address_facts, address_record_of, address_records_in, addresses_facts, addresses_in, addresses_of, entry_facts, entry_pairs, first_at, keyed_block_fact, keyed_facts, list_records}
use Rattle.file_grammar.specs.BoxRules.{Beside, Boxing, block_facts, is_marked, is_ordinal, section_facts, text_fact, with_before}
use Rattle.file_grammar.specs.Facts.{AllHold, Fact}
use Rattle.file_grammar.specs.Files.{FileParts, section_records, sections_facts}
use Rattle.file_grammar.specs.Listed.{block_records, records_in}
use Rattle.file_grammar.specs.MapRules.{map_boxing, map_read, map_records_in}
use Rattle.file_grammar.specs.Messages.{Fields}
use Rattle.file_grammar.specs.PoiRules.{Group, group_facts, group_records, groups_facts, groups_in, poi_boxing, poi_read, poi_records_in}
use Rattle.file_grammar.specs.RoadRules.{ban_boxing, ban_read, bans_in, road_boxing, road_read, roads_in, routing_in}
use Rattle.file_grammar.specs.Sections.{Block, Entry, Section, object_of, section_in}
use Rattle.boxed_laws.specs.Classes.{PassUtf8}
use Rattle.boxed_laws.proofs.BlockTexts.{all_join}
use Rattle.boxed_laws.proofs.FittingRecords.{Holds, all_before, all_behind, texts_utf8}
use Rattle.boxed_laws.proofs.ObjectNumbers.{ordinal_again}
use Rattle.map_section.specs.MapLawful.{map_lawful}
use Rattle.poi_section.specs.PoiLawful.{poi_lawful}
use Rattle.road_section.specs.BanLawful.{ban_lawful}
use Rattle.road_section.specs.RoadLawful.{road_lawful}

-- the object has a mark, where marks are asked for
abbrev pub HasMark : Option (List ℕ) → Id → Type 0
HasMark None id = Unit {0}
HasMark (Some marks) id = list_any (λ mark. mark == ordinal id) marks ≡ true

marked_object : (marks : Option (List ℕ)) (n : ℕ) → is_ordinal n ≡ true → is_marked marks n ≡ true → HasMark marks (object_of n)
marked_object None n good marked = tt
marked_object (Some marks) n good marked =
    subst (λ (k : ℕ). list_any (λ mark. mark == k) marks ≡ true) (sym (ordinal_again n good))
    (left (list_any (λ mark. mark == n) marks) (subst (λ (b : Bool). (list_any (λ mark. mark == n) marks || not b) ≡ true) good marked))
  where
    left : (b : Bool) → (b || false) ≡ true → b ≡ true
    left true e = refl
    left false e = absurd cc

-- what is said of a record: it fits the rules, and its object has a mark
abbrev pub IsSound : Beside → Rec → Type 0
IsSound beside r = Fits beside.rules r × HasMark beside.marks (record_id r)

-- ---- boxed records

module _ {A : Type 0} (boxing : Boxing) (reads : Block → Entry → A) (P : A → Type 0) (beside : Beside)
    (each : (block : Block) (prev : Option Entry) (entry : Entry) → PassUtf8 block.texts → AllHold (boxing.facts beside block (prev, entry)) → P (reads block entry)) where
  of_entries : (block : Block) (entries : List Entry) (prev : Option Entry) → PassUtf8 block.texts → AllHold (flat_map (boxing.facts beside block) (with_before prev entries)) → AllByRecursion P (map (reads block) entries)
  of_entries block [] prev utf8 all = tt
  of_entries block (e ∷ es) prev utf8 all =
      let front : List Fact = boxing.facts beside block (prev, e) in
      let rest : List Fact = flat_map (boxing.facts beside block) (with_before (Some e) es) in
      (each block prev e utf8 (all_before Holds front rest all), of_entries block es (Some e) utf8 (all_behind Holds front rest all))

  of_blocks : (blocks : List Block) → AllHold (flat_map (block_facts boxing beside) blocks) → AllByRecursion P (flat_map (block_records reads) blocks)
  of_blocks [] all = tt
  of_blocks (b ∷ bs) all =
      let front : List Fact = block_facts boxing beside b in
      let rest : List Fact = flat_map (block_facts boxing beside) bs in
      let here = all_before Holds front rest all in
      let texts : List Fact = map text_fact (with_before None b.texts) in
      let entries : List Fact = flat_map (boxing.facts beside b) (with_before None b.entries) in
      all_join P (block_records reads b) (flat_map (block_records reads) bs)
      (of_entries b b.entries None (texts_utf8 b.texts None (all_before Holds texts entries here.1)) (all_behind Holds texts entries here.1))
      (of_blocks bs (all_behind Holds front rest all))

  of_section : (s : Section) → AllHold (section_facts boxing beside s) → AllByRecursion P (records_in reads s)
  unfolding section_facts
  of_section s all = of_blocks s.blocks (all_behind Holds _ (flat_map (block_facts boxing beside) s.blocks) all)

-- what holds of all as records of one class holds of the records
as_records : {A : Type 0} (f : A → Rec) (P : Rec → Type 0) (xs : List A) → AllByRecursion (λ x. P (f x)) xs → AllByRecursion P (map f xs)
as_records f P [] all = tt
as_records f P (x ∷ xs) all = (all.0, as_records f P xs all.1)

module _ (beside : Beside) where
  maps_sound : (s : Section) → AllHold (section_facts map_boxing beside s) → AllByRecursion (λ m. IsSound beside (Map m)) (map_records_in s)
  maps_sound = of_section map_boxing map_read (λ (m : MapRec). IsSound beside (Map m)) beside
      (λ block prev e utf8 all. (map_lawful.sound beside block prev e utf8 all, marked_object beside.marks e.ordinal (and_parts (is_ordinal e.ordinal) _ all.1.0).0 all.1.1.0))

  roads_sound : (s : Section) → AllHold (section_facts road_boxing beside s) → AllByRecursion (λ r. IsSound beside (Road r)) (roads_in s)
  roads_sound = of_section road_boxing road_read (λ (r : RoadRec). IsSound beside (Road r)) beside
      (λ block prev e utf8 all. (road_lawful.sound beside block prev e utf8 all, marked_object beside.marks e.ordinal (and_parts (is_ordinal e.ordinal) _ all.1.0).0 all.1.1.0))

  bans_sound : (s : Section) → AllHold (section_facts ban_boxing beside s) → AllByRecursion (λ b. IsSound beside (Ban b)) (bans_in s)
  bans_sound = of_section ban_boxing ban_read (λ (b : BanRec). IsSound beside (Ban b)) beside
      (λ block prev e utf8 all. (ban_lawful.sound beside block prev e utf8 all, marked_object beside.marks e.ordinal (and_parts (is_ordinal e.ordinal) _ all.1.0).0 all.1.1.0))

  -- ---- points of interest in their groups

  groups_sound : (before : Option Group) (groups : List Group) → AllHold (flat_map (group_facts beside) (with_before before groups)) → AllByRecursion (λ p. IsSound beside (Poi p)) (flat_map group_records groups)
  groups_sound before [] all = tt
  groups_sound before (g ∷ gs) all =
      let rest : List Fact = flat_map (group_facts beside) (with_before (Some g) gs) in
      let here = all_before Holds (group_facts beside (before, g)) rest all in
      all_join (λ (p : PoiRec). IsSound beside (Poi p)) (group_records g) (flat_map group_records gs)
      (of_section poi_boxing (poi_read g.category.value) (λ (p : PoiRec). IsSound beside (Poi p)) beside
      (λ block prev e utf8 all. (((poi_lawful g.category.value here.1.0).sound beside block prev e utf8 all).fits, marked_object beside.marks e.ordinal (and_parts (is_ordinal e.ordinal) _ all.1.0).0 all.1.1.0))
      g.section here.1.1.1)
      (groups_sound (Some g) gs (all_behind Holds (group_facts beside (before, g)) rest all))

  pois_sound : (fields : Fields) → AllHold (groups_facts beside fields) → AllByRecursion (λ p. IsSound beside (Poi p)) (poi_records_in fields)
  unfolding groups_facts
  pois_sound fields all = groups_sound None (groups_in fields) all

  -- ---- addresses in their lists

  addresses_marked : (houses : Bool) (before : Option Address) (addresses : List Address) → AllHold (flat_map (address_facts houses beside) (with_before before addresses))
      → AllByRecursion (λ a. HasMark beside.marks a.id) (map address_record_of addresses)
  addresses_marked houses before [] all = tt
  addresses_marked houses before (a ∷ others) all =
      let front : List Fact = address_facts houses beside (before, a) in
      let rest : List Fact = flat_map (address_facts houses beside) (with_before (Some a) others) in
      let here = all_before Holds front rest all in
      (marked_object beside.marks a.ordinal.value (and_parts (is_ordinal a.ordinal.value) _ here.1.0).0 here.1.1.0, addresses_marked houses (Some a) others (all_behind Holds front rest all))

  list_marked : (houses : Bool) (list : KeyedList) → AllHold (keyed_facts houses beside list) → AllByRecursion (λ a. HasMark beside.marks a.id) (list_records list)
  unfolding keyed_facts
  list_marked houses list all =
      let front : List Fact = (flat_map entry_facts list.entries ++ entry_pairs (first_at list.blocks) list.entries list.blocks) ++ map keyed_block_fact list.blocks in
      addresses_marked houses None (addresses_in list.blocks) (all_behind Holds front (flat_map (address_facts houses beside) (with_before None (addresses_in list.blocks))) all)

  both : (xs : List AddrRec) → AllByRecursion FitsAddress xs → AllByRecursion (λ a. HasMark beside.marks a.id) xs → AllByRecursion (λ a. IsSound beside (Addr a)) xs
  both [] fit marked = tt
  both (x ∷ xs) fit marked = ((fit.0, marked.0), both xs fit.1 marked.1)

  addresses_sound : (a : Addresses) → AllByRecursion FitsAddress (address_records_in a) → AllHold (addresses_facts beside a) → AllByRecursion (λ a. IsSound beside (Addr a)) (address_records_in a)
  addresses_sound a fit all =
      let names : List Fact = keyed_facts false beside a.names in
      let houses : List Fact = keyed_facts true beside a.houses in
      both (address_records_in a) fit
      (all_join (λ (r : AddrRec). HasMark beside.marks r.id) (list_records a.names) (list_records a.houses) (list_marked false a.names (all_before Holds names houses all)) (list_marked true a.houses (all_behind Holds names houses all)))

  -- ---- all sections of a file

  pub sections_sound : (parts : FileParts) → AllByRecursion FitsAddress (address_records_in (addresses_of parts.addresses)) → AllHold (sections_facts beside parts) → AllByRecursion (IsSound beside) (section_records parts)
  sections_sound parts fit all =
      let of_map : List Fact = section_facts map_boxing beside (section_in parts.map) in
      let of_addresses : List Fact = addresses_facts beside (addresses_of parts.addresses) in
      let of_pois : List Fact = groups_facts beside parts.pois in
      let of_roads : List Fact = section_facts road_boxing beside (routing_in parts.roads).roads in
      let of_bans : List Fact = section_facts ban_boxing beside (routing_in parts.roads).bans in
      let three = all_before Holds ((of_map ++ of_addresses) ++ of_pois) (of_roads ++ of_bans) all in
      let two = all_before Holds (of_map ++ of_addresses) of_pois three in
      let routing = all_behind Holds ((of_map ++ of_addresses) ++ of_pois) (of_roads ++ of_bans) all in
      all_join (IsSound beside) _ _
      (all_join (IsSound beside) _ _
      (all_join (IsSound beside) _ _
      (all_join (IsSound beside) _ _
      (as_records Map (IsSound beside) (map_records_in (section_in parts.map)) (maps_sound (section_in parts.map) (all_before Holds of_map of_addresses two)))
      (as_records Addr (IsSound beside) (address_records_in (addresses_of parts.addresses)) (addresses_sound (addresses_of parts.addresses) fit (all_behind Holds of_map of_addresses two))))
      (as_records Poi (IsSound beside) (poi_records_in parts.pois) (pois_sound parts.pois (all_behind Holds (of_map ++ of_addresses) of_pois three))))
      (as_records Road (IsSound beside) (roads_in (routing_in parts.roads).roads) (roads_sound (routing_in parts.roads).roads (all_before Holds of_roads of_bans routing))))
      (as_records Ban (IsSound beside) (bans_in (routing_in parts.roads).bans) (bans_sound (routing_in parts.roads).bans (all_behind Holds of_roads of_bans routing)))
