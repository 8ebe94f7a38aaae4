-- Laws of addresses.
use Rattle.std.specs.Prelude.{◌≡◌, List, ◌++◌, false, filter, true}
use Rattle.std.specs.List.{AllByRecursion}
use Rattle.std.specs.List.Sorted.{IsPermutation}
use Rattle.live_model.specs.declared.addresses.AddrRec.{AddrRec}
use Rattle.live_model.specs.Fits.{FitsAddress}
use Rattle.obf_wire.specs.Fields.{Window}
use Rattle.file_grammar.specs.declared.parts.Part.TheVariants.{Addresses}
use Rattle.file_grammar.specs.declared.parts.Version.{Version}
use Rattle.file_grammar.specs.AddressRules.{address_records_in, addresses_facts, addresses_of}
use Rattle.file_grammar.specs.BoxRules.{Beside}
use Rattle.file_grammar.specs.Facts.{AllHold}
use Rattle.file_grammar.specs.Messages.{Fields, IsMessage}
use Rattle.boxed_write.specs.Packed.{sorted_by}
use Rattle.addr_section.specs.Packed.{is_listed, keyed_cmp, packed_addresses}

-- the bytes of the window are these addresses, in the order of their lists, and every rule holds of them
pub record AreAddressesOf (version : Version) (beside : Beside) (w : Window) (records : List AddrRec) : Type 0 where
  pub fields : Fields
  pub form : IsMessage (Addresses version) w fields
  pub sound : AllHold (addresses_facts beside (addresses_of fields))
  pub records_are : records ≡ address_records_in (addresses_of fields)

-- the records of a section, however it is packed, fit
abbrev pub FittingLaw : Type 0
FittingLaw = (version : Version) (beside : Beside) (w : Window) (records : List AddrRec) → AreAddressesOf version beside w records → AllByRecursion FitsAddress records

-- the records as they stand in their lists: places and streets, then houses
abbrev pub in_lists : List AddrRec → List AddrRec
in_lists records = sorted_by keyed_cmp (filter (is_listed false) records) ++ sorted_by keyed_cmp (filter (is_listed true) records)

-- each record stands in one of the lists, as often as it was given
abbrev pub KeptLaw : Type 0
KeptLaw = (records : List AddrRec) → IsPermutation records (in_lists records)

-- the order in which records are given does not matter
abbrev pub AnyOrderLaw : Type 0
AnyOrderLaw = (a b : List AddrRec) → AllByRecursion FitsAddress a → IsPermutation a b → packed_addresses a ≡ packed_addresses b
