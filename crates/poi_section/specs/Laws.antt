-- Laws of packed groups of points of interest.
use Rattle.std.specs.Prelude.{◌≡◌, ◌<◌, ◌^◌, ℕ, List, flat_map, length, IsTrue, None, Ok}
use Rattle.std.specs.List.{AllByRecursion}
use Rattle.std.specs.List.Sorted.{IsPermutation}
use Rattle.live_model.specs.declared.records.PoiRec.{PoiRec}
use Rattle.live_model.specs.declared.rules.Rule.{Rule}
use Rattle.live_model.specs.Fits.{FitsPoi}
use Rattle.live_model.specs.Rules.{is_category}
use Rattle.obf_wire.specs.Fields.{Window, IsWindow, left_of}
use Rattle.file_grammar.specs.declared.parts.Part.TheVariants.{Pois}
use Rattle.file_grammar.specs.BoxRules.{Beside}
use Rattle.file_grammar.specs.Facts.{AllHold}
use Rattle.file_grammar.specs.Messages.{Fields, IsMessage}
use Rattle.file_grammar.specs.PoiRules.{groups_facts, poi_records_in}
use Rattle.file_grammar.specs.Readings.{IsInMemory, message_at}
use Rattle.boxed_laws.specs.Classes.{without_marks}
use Rattle.boxed_laws.specs.Laws as L
use Rattle.poi_section.specs.Groups.{rules_break}
use Rattle.poi_section.specs.Packed.{IsPlaced, categories_of, of_category, packed_pois, poi_packing}
use Rattle.poi_section.specs.PoiLawful.{FitsCategory, poi_class}

-- what is packed of records of a category is a section of these records
abbrev pub PackedLaw : Type 0
PackedLaw = (category : List ℕ) → IsTrue (is_category category) → L.PackedLaw (poi_class category) (FitsCategory category)

-- what is packed of records of a category is read, in memory, to these records, and no rule fails
abbrev pub PackedReadLaw : Type 0
PackedReadLaw = (category : List ℕ) → IsTrue (is_category category) → L.PackedReadLaw (poi_class category) (FitsCategory category)

-- the records of a section of a category, however it is packed, fit
abbrev pub FittingLaw : Type 0
FittingLaw = (category : List ℕ) → IsTrue (is_category category) → L.FittingLaw (poi_class category) (FitsCategory category)

-- the records as they stand in their groups: category by category, in the order of its blocks
abbrev pub in_groups : List PoiRec → List PoiRec
in_groups records = flat_map (λ category. L.in_blocks poi_packing (of_category category records)) (categories_of records)

-- each record stands in one group, as often as it was given
abbrev pub KeptLaw : Type 0
KeptLaw = (records : List PoiRec) → IsPermutation records (in_groups records)

-- the order in which records of a category are given does not matter
abbrev pub AnyOrderLaw : Type 0
AnyOrderLaw = L.AnyOrderLaw poi_packing IsPlaced

-- The whole section: all of its groups.

-- the bytes of the window are groups of these records, in the order of the groups and of their blocks, and every rule holds of them
pub record AreGroupsOf (beside : Beside) (w : Window) (records : List PoiRec) : Type 0 where
  pub fields : Fields
  pub form : IsMessage Pois w fields
  pub sound : AllHold (groups_facts beside fields)
  pub records_are : records ≡ poi_records_in fields

-- the same, as it is read field by field, where no rule fails
pub record ReadAsGroups (beside : Beside) (w : Window) (records : List PoiRec) : Type 0 where
  pub fields : Fields
  pub read : message_at Pois w ≡ Ok fields
  pub sound : rules_break beside fields ≡ None
  pub records_are : poi_records_in fields ≡ records

-- what is packed of records that fit is a section of these records, group by group
abbrev pub PackedGroupsLaw : Type 0
PackedGroupsLaw =
    (rules : List Rule) (records : List PoiRec) (w : Window) → length rules < 2 ^ 64 → AllByRecursion FitsPoi records → IsWindow w → length w.bytes < 2 ^ 64
    → left_of w ≡ packed_pois records → AreGroupsOf (without_marks rules) w (in_groups records)

-- what is packed of records that fit is read, in memory, to these records, group by group, and no rule fails
abbrev pub PackedGroupsReadLaw : Type 0
PackedGroupsReadLaw =
    (rules : List Rule) (records : List PoiRec) (w : Window) → length rules < 2 ^ 64 → AllByRecursion FitsPoi records → IsInMemory w
    → left_of w ≡ packed_pois records → ReadAsGroups (without_marks rules) w (in_groups records)

-- the records of a section, however it is packed, fit
abbrev pub FittingGroupsLaw : Type 0
FittingGroupsLaw = (beside : Beside) (w : Window) (records : List PoiRec) → AreGroupsOf beside w records → AllByRecursion FitsPoi records
