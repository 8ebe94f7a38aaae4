-- Laws of packed sections of map records, and of ordinals.
use Rattle.std.specs.Prelude.{◌≡◌, ℕ, List, IsTrue}
use Rattle.live_model.specs.declared.records.MapRec.{MapRec}
use Rattle.live_model.specs.Ids.{Id, IsId, ordinal}
use Rattle.live_model.specs.Fits.{FitsMap}
use Rattle.obf_wire.specs.Fields.{Window}
use Rattle.file_grammar.specs.Sections.{object_of}
use Rattle.file_grammar.specs.BoxRules.{Beside, is_ordinal}
use Rattle.boxed_laws.specs.Laws as L
use Rattle.map_section.specs.Packed.{HasId, map_packing}
use Rattle.map_section.specs.MapLawful.{map_class}

-- the bytes of the window are a section of these records, in the order of its blocks, and every rule holds of it
abbrev pub IsMapSection : Beside → Window → List MapRec → Type 0
IsMapSection beside w records = L.IsSection map_class beside w records

-- the records as they stand in their blocks
abbrev pub in_blocks : List MapRec → List MapRec
in_blocks records = L.in_blocks map_packing records

-- what is packed of records that fit the rules is a section of these records
abbrev pub PackedLaw : Type 0
PackedLaw = L.PackedLaw map_class FitsMap

-- what is packed of records that fit the rules is read, in memory, to these records, and no rule fails
abbrev pub PackedReadLaw : Type 0
PackedReadLaw = L.PackedReadLaw map_class FitsMap

-- each record stands in one block, as often as it was given
abbrev pub KeptLaw : Type 0
KeptLaw = L.KeptLaw map_packing

-- the order in which records are given does not matter
abbrev pub AnyOrderLaw : Type 0
AnyOrderLaw = L.AnyOrderLaw map_packing HasId

-- the records of a section, however it is packed, fit the rules
abbrev pub FittingLaw : Type 0
FittingLaw = L.FittingLaw map_class FitsMap

-- an object has one ordinal, and an ordinal one object
pub record OrdinalLaw : Type 0 where
  pub of_object : (o : Id) → IsId o → IsTrue (is_ordinal (ordinal o)) × (object_of (ordinal o) ≡ o)
  pub of_ordinal : (n : ℕ) → IsTrue (is_ordinal n) → IsId (object_of n) × (ordinal (object_of n) ≡ n)
