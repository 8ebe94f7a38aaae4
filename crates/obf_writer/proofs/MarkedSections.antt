-- Points of interest and addresses that are sound without marks are sound beside marks that contain the object of each record.
use Rattle.std.proofs.Common.{ℕ, Bool, true, false, List, [], ◌∷◌, ◌++◌, map}
use Rattle.std.specs.Prelude.{flat_map, Contains, IsTrue, Option, Some, None}
use Rattle.std.specs.List.{AllByRecursion}
use Rattle.live_model.specs.Ids.{ordinal}
use Rattle.live_model.specs.Rules.{is_category}
use Rattle.live_model.specs.declared.addresses.AddrRec.{AddrRec}
use Rattle.live_model.specs.declared.records.PoiRec.{PoiRec}
use Rattle.live_model.specs.declared.rules.Rule.{Rule}
use Rattle.file_grammar.specs.Facts.{AllHold, Fact}
use Rattle.file_grammar.specs.Messages.{Fields}
use Rattle.file_grammar.specs.BoxRules.{with_before}
use Rattle.file_grammar.specs.PoiRules.{Group, group_facts, group_records, groups_facts, groups_in, poi_records_in}
use Rattle.file_grammar.specs.AddressRules.{Address, Addresses, KeyedList, address_facts, address_record_of, address_records_in, addresses_facts, addresses_in, entry_facts, entry_pairs, first_at, keyed_block_fact, keyed_facts, list_records}
use Rattle.boxed_laws.specs.Classes.{with_marks, without_marks}
use Rattle.boxed_laws.proofs.BlockTexts.{all_join}
use Rattle.boxed_laws.proofs.FittingRecords.{Holds, all_before, all_behind}
use Rattle.boxed_laws.proofs.MarkedSections.{marked_law, number_marked}
use Rattle.poi_section.specs.PoiLawful.{FitsCategory, poi_class, poi_lawful}

module _ (rules : List Rule) (marks : List ℕ) where
  -- ---- points of interest in their groups

  -- the point of interest is of an object with a mark
  abbrev IsMarkedPoi : PoiRec → Type 0
  IsMarkedPoi p = Contains marks (ordinal p.id)

  groups_hold : (before : Option Group) (groups : List Group) → AllByRecursion IsMarkedPoi (flat_map group_records groups) → AllHold (flat_map (group_facts (without_marks rules)) (with_before before groups))
      → AllHold (flat_map (group_facts (with_marks rules marks)) (with_before before groups))
  groups_hold before [] marked all = tt
  groups_hold before (g ∷ gs) marked all =
      let more : List PoiRec = flat_map group_records gs in
      let rest : List Fact = flat_map (group_facts (without_marks rules)) (with_before (Some g) gs) in
      let here = all_before Holds (group_facts (without_marks rules) (before, g)) rest all in
      let named : IsTrue (is_category g.category.value) = here.1.0 in
      let section = marked_law (poi_class g.category.value) (FitsCategory g.category.value) (poi_lawful g.category.value named) rules marks g.section (all_before IsMarkedPoi (group_records g) more marked) here.1.1.1 in
      all_join Holds (group_facts (with_marks rules marks) (before, g)) (flat_map (group_facts (with_marks rules marks)) (with_before (Some g) gs)) (here.0, (here.1.0, (here.1.1.0, section)))
      (groups_hold (Some g) gs (all_behind IsMarkedPoi (group_records g) more marked) (all_behind Holds (group_facts (without_marks rules) (before, g)) rest all))

  pub pois_with_marks : (fields : Fields) → AllByRecursion (λ p. Contains marks (ordinal p.id)) (poi_records_in fields) → AllHold (groups_facts (without_marks rules) fields) → AllHold (groups_facts (with_marks rules marks) fields)
  unfolding groups_facts
  pois_with_marks fields marked all = groups_hold None (groups_in fields) marked all

  -- ---- addresses in their lists

  -- the address is of an object with a mark
  abbrev IsMarkedAddress : AddrRec → Type 0
  IsMarkedAddress a = Contains marks (ordinal a.id)

  addresses_hold : (houses : Bool) (before : Option Address) (addresses : List Address) → AllByRecursion IsMarkedAddress (map address_record_of addresses) → AllHold (flat_map (address_facts houses (without_marks rules)) (with_before before addresses))
      → AllHold (flat_map (address_facts houses (with_marks rules marks)) (with_before before addresses))
  addresses_hold houses before [] marked all = tt
  addresses_hold houses before (a ∷ others) marked all =
      let rest : List Fact = flat_map (address_facts houses (without_marks rules)) (with_before (Some a) others) in
      let here = all_before Holds (address_facts houses (without_marks rules) (before, a)) rest all in
      all_join Holds (address_facts houses (with_marks rules marks) (before, a)) (flat_map (address_facts houses (with_marks rules marks)) (with_before (Some a) others)) (here.0, (here.1.0, (number_marked marks a.ordinal.value marked.0, here.1.1.1)))
      (addresses_hold houses (Some a) others marked.1 (all_behind Holds (address_facts houses (without_marks rules) (before, a)) rest all))

  list_holds : (houses : Bool) (list : KeyedList) → AllByRecursion IsMarkedAddress (list_records list) → AllHold (keyed_facts houses (without_marks rules) list) → AllHold (keyed_facts houses (with_marks rules marks) list)
  unfolding keyed_facts
  list_holds houses list marked all =
      let front : List Fact = flat_map entry_facts list.entries ++ entry_pairs (first_at list.blocks) list.entries list.blocks ++ map keyed_block_fact list.blocks in
      let own : List Fact = flat_map (address_facts houses (without_marks rules)) (with_before None (addresses_in list.blocks)) in
      all_join Holds front _ (all_before Holds front own all) (addresses_hold houses None (addresses_in list.blocks) marked (all_behind Holds front own all))

  pub addresses_with_marks : (a : Addresses) → AllByRecursion (λ r. Contains marks (ordinal r.id)) (address_records_in a) → AllHold (addresses_facts (without_marks rules) a) → AllHold (addresses_facts (with_marks rules marks) a)
  addresses_with_marks a marked all =
      let names : List AddrRec = list_records a.names in
      let houses : List AddrRec = list_records a.houses in
      let of_names : List Fact = keyed_facts false (without_marks rules) a.names in
      let of_houses : List Fact = keyed_facts true (without_marks rules) a.houses in
      all_join Holds (keyed_facts false (with_marks rules marks) a.names) (keyed_facts true (with_marks rules marks) a.houses)
      (list_holds false a.names (all_before IsMarkedAddress names houses marked) (all_before Holds of_names of_houses all))
      (list_holds true a.houses (all_behind IsMarkedAddress names houses marked) (all_behind Holds of_names of_houses all))
