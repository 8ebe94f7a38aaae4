-- The records of an image, section by section.
use Rattle.std.proofs.Common.{◌≡◌, ℕ, List, [], ◌∷◌, ◌++◌, Bool, map, append_assoc, Result, Ok, refl, sym, ap, ap₂, ◌∙◌, subst}
use Rattle.std.specs.Prelude.{filter, flat_map}
use Rattle.std.proofs.lemmas.List.Elements.{filter-append}
use Rattle.live_model.specs.declared.addresses.AddrRec.{AddrRec}
use Rattle.live_model.specs.declared.records.BanRec.{BanRec}
use Rattle.live_model.specs.declared.records.MapRec.{MapRec}
use Rattle.live_model.specs.declared.records.PoiRec.{PoiRec}
use Rattle.live_model.specs.declared.records.Rec.{Rec}
use Rattle.live_model.specs.declared.records.Rec.TheVariants.{Map, Poi, Addr, Road, Ban}
use Rattle.live_model.specs.declared.records.RoadRec.{RoadRec}
use Rattle.obf_wire.specs.declared.file.FileBreak.{FileBreak}
use Rattle.file_grammar.specs.AddressRules.{address_records_in, addresses_of}
use Rattle.file_grammar.specs.Files.{FileParts, section_records}
use Rattle.file_grammar.specs.Listed.{block_records}
use Rattle.file_grammar.specs.MapRules.{map_records_in}
use Rattle.file_grammar.specs.Messages.{Fields}
use Rattle.file_grammar.specs.PoiRules.{Group, group_records, groups_in, poi_records_in}
use Rattle.file_grammar.specs.Readings.{message_at}
use Rattle.file_grammar.specs.RoadRules.{ban_read, bans_in, road_read, roads_in, routing_in}
use Rattle.file_grammar.specs.Sections.{section_in}
use Rattle.file_grammar.specs.declared.parts.Part.TheVariants.{Addresses}
use Rattle.file_grammar.specs.declared.parts.Version.{Version}
use Rattle.boxed_read.specs.Meeting.{InBoxes, in_boxes}
use Rattle.boxed_read.specs.Records.{fields_read}
use Rattle.boxed_read.specs.Steps.{joined}
use Rattle.map_section.specs.MapLawful.{map_reads}
use Rattle.poi_section.specs.PoiSections.{GroupRead, group_read}
use Rattle.obf_reader.specs.Images.{IsImage, Seen, addresses_window, bans_of, groups_of, maps_of, roads_of}
use Rattle.fold_merge.specs.Collecting.{records_of_group, sections_in, sections_of, sections_read}

joined_map : {A B : Type 0} (f : A → List B) (xs : List A) → joined (map f xs) ≡ flat_map f xs
joined_map f [] = refl
joined_map f (x ∷ xs) = ap (λ (ys : List _). f x ++ ys) (joined_map f xs)

joined_groups : (groups : List Group) → flat_map records_of_group (map group_read groups) ≡ flat_map group_records groups
joined_groups [] = refl
joined_groups (g ∷ gs) = ap₂ (λ (xs ys : List PoiRec). xs ++ ys) (joined_map _ g.section.blocks) (joined_groups gs)

-- five lists that are kept one after another are kept as one
five_kept : (test : Rec → Bool) (r0 r1 r2 r3 r4 r5 a b c d e : List Rec) → r1 ≡ r0 ++ filter test a → r2 ≡ r1 ++ filter test b → r3 ≡ r2 ++ filter test c → r4 ≡ r3 ++ filter test d → r5 ≡ r4 ++ filter test e
    → r5 ≡ r0 ++ filter test (a ++ b ++ c ++ d ++ e)
five_kept test r0 r1 r2 r3 r4 r5 a b c d e e1 e2 e3 e4 e5 =
    let f2 : r2 ≡ r0 ++ filter test (a ++ b) = two r0 r1 r2 a b e1 e2 in
    let f3 : r3 ≡ r0 ++ filter test (a ++ b ++ c) = two r0 r2 r3 (a ++ b) c f2 e3 in
    let f4 : r4 ≡ r0 ++ filter test (a ++ b ++ c ++ d) = two r0 r3 r4 (a ++ b ++ c) d f3 e4 in
    two r0 r4 r5 (a ++ b ++ c ++ d) e f4 e5
  where
    two : (r0 r1 r2 a b : List Rec) → r1 ≡ r0 ++ filter test a → r2 ≡ r1 ++ filter test b → r2 ≡ r0 ++ filter test (a ++ b)
    two r0 r1 r2 a b e1 e2 = e2 ∙ ap (λ (r : List Rec). r ++ filter test b) e1 ∙ append_assoc r0 (filter test a) (filter test b) ∙ ap (λ (r : List Rec). r0 ++ r) (sym (filter-append test a b))

module _ (image : Seen) (i : IsImage image) where
  abbrev parts : FileParts
  parts = i.holds.parts

  its_sections : sections_in image.bytes ≡ section_records parts
  unfolding sections_in
  its_sections = ap sections_read i.holds.form ∙ ap sections_of i.holds.are

  -- what is kept of each section in turn is what is kept of all
  pub image_kept : (test : Rec → Bool) (r0 r1 r2 r3 r4 r5 : List Rec) (maps : InBoxes MapRec) (addresses : List (List AddrRec)) (pois : List GroupRead) (roads : InBoxes RoadRec) (bans : InBoxes BanRec)
      → maps ≡ in_boxes map_reads (maps_of image)
      → ((fields : Fields) → message_at (Addresses image.version) (addresses_window image) ≡ Ok fields → joined addresses ≡ address_records_in (addresses_of fields))
      → pois ≡ map group_read (groups_of image)
      → roads ≡ in_boxes road_read (roads_of image)
      → bans ≡ in_boxes ban_read (bans_of image)
      → r1 ≡ r0 ++ filter test (map Map (joined maps.blocks)) → r2 ≡ r1 ++ filter test (map Addr (joined addresses)) → r3 ≡ r2 ++ filter test (map Poi (flat_map records_of_group pois))
      → r4 ≡ r3 ++ filter test (map Road (joined roads.blocks)) → r5 ≡ r4 ++ filter test (map Ban (joined bans.blocks)) → r5 ≡ r0 ++ filter test (sections_in image.bytes)
  image_kept test r0 r1 r2 r3 r4 r5 maps addresses pois roads bans m a p r b e1 e2 e3 e4 e5 =
      let there = i.holds.sections in
      let maps_are : joined maps.blocks ≡ map_records_in (section_in parts.map) =
      ap (λ (s : InBoxes MapRec). joined s.blocks) m ∙ joined_map (block_records map_reads) (maps_of image).blocks ∙ ap (λ (f : Result Fields FileBreak). map_records_in (section_in (fields_read f))) there.map in
      let addresses_are : joined addresses ≡ address_records_in (addresses_of parts.addresses) =
      a parts.addresses (subst (λ (v : Version). message_at (Addresses v) (addresses_window image) ≡ Ok parts.addresses) (sym i.holds.version) there.addresses) in
      let pois_are : flat_map records_of_group pois ≡ poi_records_in parts.pois =
      ap (flat_map records_of_group) p ∙ joined_groups (groups_of image) ∙ ap (λ (f : Result Fields FileBreak). flat_map group_records (groups_in (fields_read f))) there.pois in
      let roads_are : joined roads.blocks ≡ roads_in (routing_in parts.roads).roads =
      ap (λ (s : InBoxes RoadRec). joined s.blocks) r ∙ joined_map (block_records road_read) (roads_of image).blocks ∙ ap (λ (f : Result Fields FileBreak). roads_in (routing_in (fields_read f)).roads) there.roads in
      let bans_are : joined bans.blocks ≡ bans_in (routing_in parts.roads).bans =
      ap (λ (s : InBoxes BanRec). joined s.blocks) b ∙ joined_map (block_records ban_read) (bans_of image).blocks ∙ ap (λ (f : Result Fields FileBreak). bans_in (routing_in (fields_read f)).bans) there.roads in
      five_kept test r0 r1 r2 r3 r4 r5 (map Map (map_records_in (section_in parts.map))) (map Addr (address_records_in (addresses_of parts.addresses))) (map Poi (poi_records_in parts.pois))
      (map Road (roads_in (routing_in parts.roads).roads)) (map Ban (bans_in (routing_in parts.roads).bans))
      (e1 ∙ ap (λ (xs : List MapRec). r0 ++ filter test (map Map xs)) maps_are) (e2 ∙ ap (λ (xs : List AddrRec). r1 ++ filter test (map Addr xs)) addresses_are)
      (e3 ∙ ap (λ (xs : List PoiRec). r2 ++ filter test (map Poi xs)) pois_are) (e4 ∙ ap (λ (xs : List RoadRec). r3 ++ filter test (map Road xs)) roads_are)
      (e5 ∙ ap (λ (xs : List BanRec). r4 ++ filter test (map Ban xs)) bans_are)
      ∙ ap (λ (rs : List Rec). r0 ++ filter test rs) (sym its_sections)
