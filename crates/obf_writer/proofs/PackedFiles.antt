-- What is packed of the parts of a file is a file with just these parts.
use Rattle.std.proofs.Common.{◌≡◌, ◌≢◌, ℕ, ◌^◌, ◌<◌, Bool, true, false, List, [], ◌∷◌, ◌++◌, length, map, Option, Some, None, refl, sym, ap, subst, ◌∙◌, arith}
use Rattle.std.specs.Prelude.{◌==◌, ◌||◌, not, is_some, unwrap_or, Contains, if◌then◌else◌}
use Rattle.std.specs.List.{AllByRecursion, list_all}
use Rattle.std.specs.List.Sorted.{IsPermutation}
use Rattle.std.proofs.lemmas.Bool.{eq-eqb, eqb-false}
use Rattle.std.proofs.lemmas.List.Sorted.{IsPermutation-append, IsPermutation-map, IsPermutation-trans}
use Rattle.live_model.specs.declared.rules.Rule.{Rule}
use Rattle.live_model.specs.declared.addresses.AddrRec.{AddrRec}
use Rattle.live_model.specs.declared.records.MapRec.{MapRec}
use Rattle.live_model.specs.declared.records.PoiRec.{PoiRec}
use Rattle.live_model.specs.declared.records.RoadRec.{RoadRec}
use Rattle.live_model.specs.declared.records.BanRec.{BanRec}
use Rattle.live_model.specs.declared.records.Rec.{Rec}
use Rattle.live_model.specs.declared.records.Rec.TheVariants.{Map, Poi, Addr, Road, Ban}
use Rattle.live_model.specs.Fits.{FitsMap, FitsRoad}
use Rattle.live_model.specs.Ids.{ordinal}
use Rattle.live_model.specs.Records.{record_id}
use Rattle.live_model.specs.Rules.{rules_text}
use Rattle.file_grammar.specs.declared.parts.Version.TheVariants.{Two}
use Rattle.file_grammar.specs.declared.parts.Part.TheVariants.{File}
use Rattle.file_grammar.specs.AddressRules.{address_records_in, addresses_facts, addresses_of}
use Rattle.file_grammar.specs.BoxRules.{Beside, is_ordinal, section_facts}
use Rattle.file_grammar.specs.Facts.{AllHold, Fact}
use Rattle.file_grammar.specs.Files.{FileParts, HeadNumbers, IsFile, beside, file_facts, file_in, is_head, marks_beside, rise_strictly, rules_in, sections_facts, sums_from, whole}
use Rattle.file_grammar.specs.MapRules.{map_boxing, map_records_in}
use Rattle.file_grammar.specs.Messages.{Fields, IsMessage}
use Rattle.file_grammar.specs.PoiRules.{groups_facts, poi_records_in}
use Rattle.file_grammar.specs.RoadRules.{ban_boxing, bans_in as bans_at, road_boxing, roads_in as roads_at, routing_facts, routing_in}
use Rattle.file_grammar.specs.Sections.{section_in}
use Rattle.file_grammar.proofs.HeadsByNumbers.{head_small}
use Rattle.boxed_laws.specs.Classes.{with_marks, without_marks}
use Rattle.boxed_laws.proofs.BlockTexts.{all_join}
use Rattle.boxed_laws.proofs.FittingRecords.{all_before, all_behind}
use Rattle.boxed_laws.proofs.MarkedSections.{marked_law}
use Rattle.boxed_laws.proofs.KeptItems.{kept as blocks_kept}
use Rattle.boxed_write.proofs.Sorting.{all_moved}
use Rattle.map_section.specs.MapLawful.{map_class, map_lawful}
use Rattle.map_section.specs.Packed.{map_packing}
use Rattle.map_section.proofs.PackedMaps.{packed_law as packed_maps}
use Rattle.poi_section.proofs.PackedGroups.{packed_groups}
use Rattle.poi_section.proofs.PackedPois.{kept as groups_kept}
use Rattle.road_section.specs.BanLawful.{FitsAnyRules, ban_class, ban_lawful}
use Rattle.road_section.specs.Restrictions.{ban_packing}
use Rattle.road_section.specs.RoadLawful.{road_class, road_lawful}
use Rattle.road_section.specs.Roads.{road_packing}
use Rattle.road_section.proofs.PackedSection.{packed_routing_law}
use Rattle.obf_writer.specs.Classes.{addresses_in, bans_in, maps_in, pois_in, roads_in}
use Rattle.obf_writer.specs.PackedFile.{AreParts, PackedFileLaw, packed_file, steps_from}
use Rattle.obf_writer.proofs.Classes.{by_classes, by_side, classes_fit, ids_of, side_by_side}
use Rattle.obf_writer.proofs.MarkSums.{beside_marks, marks_again, none_in_base, ordinals_are, rise_is, steps_small}
use Rattle.obf_writer.proofs.MarkedSections.{addresses_with_marks, pois_with_marks}
use Rattle.obf_writer.proofs.PackedAddresses.{packed_addresses_hold}
use Rattle.obf_writer.proofs.PackedFields.{addresses_window, all_bytes, fields_formed, fields_spelled, fields_with, map_window, pois_window, roads_window, sections_there}
use Rattle.obf_writer.proofs.RecordOrder.{order_again}
use Rattle.obf_writer.proofs.RulesBack.{rules_again}

abbrev holds : Fact → Type 0
holds f = f.holds ≡ true

-- the fields of the sections of a file
record SectionFields : Type 0 where
  map : Fields
  addresses : Fields
  pois : Fields
  roads : Fields

-- the records of these sections
record Held (s : SectionFields) (maps : List MapRec) (addresses : List AddrRec) (pois : List PoiRec) (roads : List RoadRec) (bans : List BanRec) : Type 0 where
  of_map : IsPermutation maps (map_records_in (section_in s.map))
  of_addresses : IsPermutation addresses (address_records_in (addresses_of s.addresses))
  of_pois : IsPermutation pois (poi_records_in s.pois)
  of_roads : IsPermutation roads (roads_at (routing_in s.roads).roads)
  of_bans : IsPermutation bans (bans_at (routing_in s.roads).bans)

-- every rule holds of them beside this
record SoundBeside (beside : Beside) (s : SectionFields) : Type 0 where
  map : AllHold (section_facts map_boxing beside (section_in s.map))
  addresses : AllHold (addresses_facts beside (addresses_of s.addresses))
  pois : AllHold (groups_facts beside s.pois)
  roads : AllHold (routing_facts beside (routing_in s.roads))

-- all records, section by section
abbrev all_held : SectionFields → List Rec
all_held s =
    side_by_side (map_records_in (section_in s.map)) (address_records_in (addresses_of s.addresses)) (poi_records_in s.pois) (roads_at (routing_in s.roads).roads) (bans_at (routing_in s.roads).bans)

-- the records of the classes are those of the sections
sides_moved : (s : SectionFields) (maps : List MapRec) (addresses : List AddrRec) (pois : List PoiRec) (roads : List RoadRec) (bans : List BanRec) → Held s maps addresses pois roads bans
    → IsPermutation (side_by_side maps addresses pois roads bans) (all_held s)
sides_moved s maps addresses pois roads bans h =
    IsPermutation-append _ _ _ _
    (IsPermutation-append _ _ _ _
    (IsPermutation-append _ _ _ _
    (IsPermutation-append _ _ _ _ (IsPermutation-map Map _ _ h.of_map) (IsPermutation-map Addr _ _ h.of_addresses))
    (IsPermutation-map Poi _ _ h.of_pois))
    (IsPermutation-map Road _ _ h.of_roads))
    (IsPermutation-map Ban _ _ h.of_bans)

module _ (head : HeadNumbers) (rules : List Rule) (marks : List ℕ) (records : List Rec) (p : AreParts head rules marks records) where
  rules_back : rules_in (rules_text rules) ≡ Some rules
  rules_back = rules_again rules p.spelled.0 p.spelled.1

  marks_back : sums_from 0 (steps_from 0 marks) ≡ marks
  marks_back = marks_again marks p.rise

  abbrev HoldsRecords : SectionFields → Type 0
  HoldsRecords s = Held s (maps_in records) (addresses_in records) (pois_in records) (roads_in records) (bans_in records)

  all_moved_there : (s : SectionFields) → HoldsRecords s → IsPermutation records (all_held s)
  all_moved_there s h =
      IsPermutation-trans records (by_side records) (all_held s) (by_classes records) (sides_moved s (maps_in records) (addresses_in records) (pois_in records) (roads_in records) (bans_in records) h)

  -- beside the sections stand these rules, and these marks
  abbrev stand_beside : Bool → Beside
  stand_beside base = record { rules = rules; marks = if base then None else Some marks }

  beside_is : (parts : FileParts) → parts.rules.value ≡ rules_text rules → parts.head.value ≡ head → parts.marks.value ≡ marks → beside parts ≡ stand_beside (head.level == 0)
  beside_is parts text numbers ordinals =
      ap (λ (t : List ℕ). record { rules = unwrap_or (rules_in t) []; marks = marks_beside parts.head.value.level parts.marks.value }) text
      ∙ ap (λ (o : Option (List Rule)). record { rules = unwrap_or o []; marks = marks_beside parts.head.value.level parts.marks.value }) rules_back
      ∙ ap (λ (h : HeadNumbers). record { rules = rules; marks = marks_beside h.level parts.marks.value }) numbers
      ∙ ap (λ (ms : List ℕ). record { rules = rules; marks = marks_beside head.level ms }) ordinals
      ∙ ap (λ (o : Option (List ℕ)). record { rules = rules; marks = o }) (beside_marks head.level marks (rise_is marks p.rise) (ordinals_are marks p.ordinals))

  -- ---- above a base each record of a section is of an object with a mark

  abbrev IsMarkedRecord : Rec → Type 0
  IsMarkedRecord r = Contains marks (ordinal (record_id r))

  records_marked : (s : SectionFields) → HoldsRecords s → head.level ≢ 0 → AllByRecursion IsMarkedRecord (all_held s)
  records_marked s h above = all_moved IsMarkedRecord records (all_held s) (all_moved_there s h) (p.marked above)

  -- what holds of the image of each item
  from_map : {A : Type 0} (f : A → Rec) (xs : List A) → AllByRecursion IsMarkedRecord (map f xs) → AllByRecursion (λ x. IsMarkedRecord (f x)) xs
  from_map f [] all = tt
  from_map f (x ∷ xs) all = (all.0, from_map f xs all.1)

  sound_above : (s : SectionFields) → AllByRecursion IsMarkedRecord (all_held s) → SoundBeside (without_marks rules) s → SoundBeside (with_marks rules marks) s
  sound_above s marked sound =
      let maps : List Rec = map Map (map_records_in (section_in s.map)) in
      let addresses : List Rec = map Addr (address_records_in (addresses_of s.addresses)) in
      let pois : List Rec = map Poi (poi_records_in s.pois) in
      let roads : List Rec = map Road (roads_at (routing_in s.roads).roads) in
      let bans : List Rec = map Ban (bans_at (routing_in s.roads).bans) in
      let four = all_before IsMarkedRecord (maps ++ addresses ++ pois ++ roads) bans marked in
      let three = all_before IsMarkedRecord (maps ++ addresses ++ pois) roads four in
      let two = all_before IsMarkedRecord (maps ++ addresses) pois three in
      let of_roads : List Fact = section_facts road_boxing (without_marks rules) (routing_in s.roads).roads in
      let of_bans : List Fact = section_facts ban_boxing (without_marks rules) (routing_in s.roads).bans in
      record {
        map = marked_law map_class FitsMap map_lawful rules marks (section_in s.map)
            (from_map Map _ (all_before IsMarkedRecord maps addresses two)) sound.map;
        addresses = addresses_with_marks rules marks (addresses_of s.addresses) (from_map Addr _ (all_behind IsMarkedRecord maps addresses two)) sound.addresses;
        pois = pois_with_marks rules marks s.pois (from_map Poi _ (all_behind IsMarkedRecord (maps ++ addresses) pois three)) sound.pois;
        roads = all_join holds _ _
            (marked_law road_class FitsRoad road_lawful rules marks (routing_in s.roads).roads
            (from_map Road _ (all_behind IsMarkedRecord (maps ++ addresses ++ pois) roads four)) (all_before holds of_roads of_bans sound.roads))
            (marked_law ban_class FitsAnyRules ban_lawful rules marks (routing_in s.roads).bans
            (from_map Ban _ (all_behind IsMarkedRecord (maps ++ addresses ++ pois ++ roads) bans marked)) (all_behind holds of_roads of_bans sound.roads));
      }

  sound_there : (s : SectionFields) → HoldsRecords s → SoundBeside (without_marks rules) s → SoundBeside (stand_beside (head.level == 0)) s
  sound_there s h sound = elim (head.level == 0) as (λ base. (head.level == 0) ≡ base → SoundBeside (stand_beside base) s) [
    | true ↦ λ e. sound
    | false ↦ λ e. sound_above s (records_marked s h (eqb-false head.level 0 e)) sound
  ] refl

  -- ---- all rules of the file

  -- the sections of a file
  abbrev fields_of : FileParts → SectionFields
  fields_of parts = record { map = parts.map; addresses = parts.addresses; pois = parts.pois; roads = parts.roads }

  -- what is said of the parts of the packed file
  record ArePacked (parts : FileParts) : Type 0 where
    version : parts.version ≡ 2
    text : parts.rules.value ≡ rules_text rules
    numbers : parts.head.value ≡ head
    ordinals : parts.marks.value ≡ marks
    again : parts.again.value ≡ 2
    held : HoldsRecords (fields_of parts)
    sound : SoundBeside (without_marks rules) (fields_of parts)

  sections_hold : (parts : FileParts) → ArePacked parts → AllHold (sections_facts (beside parts) parts)
  sections_hold parts a =
      let s = subst (λ (b : Beside). SoundBeside b (fields_of parts)) (sym (beside_is parts a.text a.numbers a.ordinals)) (sound_there (fields_of parts) a.held a.sound) in
      all_join holds _ _ (all_join holds _ _ (all_join holds _ _ s.map s.addresses) s.pois) s.roads

  facts_hold : (parts : FileParts) → ArePacked parts → AllHold (file_facts parts)
  unfolding file_facts
  facts_hold parts a =
      let rise = rise_is marks p.rise in
      let all = ordinals_are marks p.ordinals in
      let version : parts.again.value ≡ parts.version = a.again ∙ sym a.version in (
        ap is_head a.numbers ∙ p.good,
        (
          ap (λ (t : List ℕ). is_some (rules_in t)) a.text ∙ ap is_some rules_back,
          (
            eq-eqb parts.again.value parts.version version,
            (
              ap rise_strictly a.ordinals ∙ rise,
              (
                ap (list_all is_ordinal) a.ordinals ∙ all,
                (
                  ap (λ (h : HeadNumbers). not (h.level == 0) || (length parts.marks.value == 0)) a.numbers
                      ∙ ap (λ (ms : List ℕ). not (head.level == 0) || (length ms == 0)) a.ordinals
                      ∙ none_in_base head.level marks p.base,
                  sections_hold parts a,
                ),
              ),
            ),
          ),
        ),
      )

  -- fields with these parts are a file
  file_of : (fields : Fields) (parts : FileParts) → IsMessage (File Two) (whole (packed_file head rules marks records)) fields → file_in fields ≡ Some parts → ArePacked parts
      → IsFile (packed_file head rules marks records) Two head rules marks records
  file_of fields parts form are a = record {
    fields = fields;
    parts = parts;
    form = form;
    parts_are = are;
    sound = facts_hold parts a;
    head_is = sym a.numbers;
    rules_are = ap rules_in a.text ∙ rules_back;
    marks_are = sym a.ordinals;
    records_are = order_again records (all_held (fields_of parts)) (ids_of rules records p.fit) p.sorted (all_moved_there (fields_of parts) a.held);
  }

  -- the bytes are a file with these parts
  is_file : length (packed_file head rules marks records) < 2 ^ 64 → IsFile (packed_file head rules marks records) Two head rules marks records
  is_file short =
      let bytes : List ℕ = packed_file head rules marks records in
      let few : length rules < 2 ^ 64 = let f = p.spelled.1 in omega arith in
      let fit = classes_fit rules records p.fit in
      let there = sections_there head rules marks records in
      let m = packed_maps rules (maps_in records) (map_window head rules marks records) few fit.maps there.map_there.window short there.map_there.left in
      let a = packed_addresses_hold rules (addresses_in records) (addresses_window head rules marks records) few fit.addresses there.addresses_there.window short there.addresses_there.left in
      let g = packed_groups rules (pois_in records) (pois_window head rules marks records) few fit.pois there.pois_there.window short there.pois_there.left in
      let r = packed_routing_law rules (roads_in records) (bans_in records) (roads_window head rules marks records) few fit.roads fit.bans there.roads_there.window short there.roads_there.left in
      let map_is = sym m.form.spelled ∙ there.map_there.left in
      let addresses_are = sym a.form.spelled ∙ there.addresses_there.left in
      let pois_are = sym g.form.spelled ∙ there.pois_there.left in
      let roads_are = sym r.form.spelled ∙ there.roads_there.left in
      let form : IsMessage (File Two) (whole bytes) (fields_with head rules marks records m.fields a.fields g.fields r.fields) = record {
        form = fields_formed head rules marks records m.fields a.fields g.fields r.fields map_is addresses_are pois_are roads_are (head_small head p.good) (steps_small 0 marks p.ordinals)
            m.form.form a.form.form g.form.form r.form.form;
        spelled = all_bytes bytes ∙ sym (fields_spelled head rules marks records m.fields a.fields g.fields r.fields map_is addresses_are pois_are roads_are);
      } in
      file_of (fields_with head rules marks records m.fields a.fields g.fields r.fields) _ form refl (record {
        version = refl;
        text = refl;
        numbers = refl;
        ordinals = marks_back;
        again = refl;
        held = record {
          of_map = subst (IsPermutation (maps_in records)) m.records_are (blocks_kept map_packing (maps_in records));
          of_addresses = a.kept;
          of_pois = subst (IsPermutation (pois_in records)) g.records_are (groups_kept (pois_in records));
          of_roads = subst (IsPermutation (roads_in records)) r.roads_are (blocks_kept road_packing (roads_in records));
          of_bans = subst (IsPermutation (bans_in records)) r.bans_are (blocks_kept ban_packing (bans_in records));
        };
        sound = record { map = m.sound; addresses = a.sound; pois = g.sound; roads = r.sound };
      })

pub packed_file_law : PackedFileLaw
packed_file_law head rules marks records p short = record { packed = refl; file = is_file head rules marks records p short }
