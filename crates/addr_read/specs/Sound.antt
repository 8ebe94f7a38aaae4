-- Addresses in which every rule holds, where they stand.
use Rattle.std.specs.Prelude.{◌≡◌, ◌≤◌, ◌+◌, ◌*◌, ℕ, List, [], length, slice_range, Bool, Option, Some, Ok, unwrap_or}
use Rattle.std.specs.List.{AllByRecursion}
use Rattle.std.specs.Option.{option_map}
use Rattle.obf_wire.specs.Fields.{Window, IsWindow, part_of}
use Rattle.file_grammar.specs.declared.parts.Part.TheVariants.{Address as AddressPart, KeyedBlock as BlockPart}
use Rattle.file_grammar.specs.declared.parts.Version.{Version}
use Rattle.file_grammar.specs.AddressRules.{Address, address_facts, address_with, lang_in}
use Rattle.file_grammar.specs.BoxRules.{Beside}
use Rattle.file_grammar.specs.Facts.{AllHold}
use Rattle.file_grammar.specs.Messages.{Fields, ends, has_message}
use Rattle.file_grammar.specs.Readings.{message_at, numbers_at}
use Rattle.file_grammar.specs.Sections.{Placed}
use Rattle.file_grammar.specs.Walks.{Standing, left_in}
use Rattle.boxed_exact.specs.declared.fields.Payload.{Payload}
use Rattle.addr_section.specs.declared.kept.AddressesKept.{AddressesKept}
use Rattle.addr_section.specs.Kept.{AreAddressesKept, addresses_within}
use Rattle.addr_read.specs.declared.fields.AddressFields.{AddressFields}

-- One address.

-- every rule holds of the address, in one of the lists and after some other address or none
pub record IsSoundAddress (a : Address) : Type 0 where
  pub houses : Bool
  pub beside : Beside
  pub prev : Option Address
  pub facts : AllHold (address_facts houses beside (prev, a))

-- the text of a language; the empty one where none stands there
abbrev pub lang_text : Option (Placed (List ℕ)) → List ℕ
lang_text lang = unwrap_or (option_map (λ l. l.value) lang) []

-- the fields of the address stand so among the bytes
pub record HoldsAddress (bytes : List ℕ) (seen : AddressFields) (a : Address) : Type 0 where
  pub ordinal : seen.ordinal ≡ a.ordinal.value
  pub kind : seen.kind ≡ a.kind.value
  pub key : slice_range bytes seen.key.from seen.key.to ≡ a.key.value
  pub name : slice_range bytes seen.name.from seen.name.to ≡ a.name.value
  pub number : slice_range bytes seen.number.from seen.number.to ≡ a.number.value
  pub points : numbers_at (part_of bytes seen.points.from seen.points.to) ≡ Ok a.points.value
  pub lang : slice_range bytes seen.lang.from seen.lang.to ≡ lang_text a.lang

-- the language that these fields are is the text that stands there
abbrev pub IsTextLeft : List ℕ → Payload → Fields → Type 0
IsTextLeft bytes span fields = slice_range bytes span.from span.to ≡ lang_text (lang_in fields)

-- the payload lies within the bytes
abbrev pub IsInside : List ℕ → Payload → Type 0
IsInside bytes span = (span.from ≤ span.to) × (span.to ≤ length bytes)

-- all payloads of an address do
pub record AreInside (bytes : List ℕ) (seen : AddressFields) : Type 0 where
  pub key : IsInside bytes seen.key
  pub name : IsInside bytes seen.name
  pub number : IsInside bytes seen.number
  pub points : IsInside bytes seen.points
  pub lang : IsInside bytes seen.lang

-- the fields of an address of which every rule holds stand so among the bytes
pub record IsSoundRead (bytes : List ℕ) (seen : AddressFields) : Type 0 where
  pub address : Address
  pub holds : HoldsAddress bytes seen address
  pub sound : IsSoundAddress address

-- the window holds such an address
pub record IsSoundAt (version : Version) (w : Window) : Type 0 where
  pub fields : Fields
  pub read : message_at (AddressPart version) w ≡ Ok fields
  pub at : ℕ
  pub address : Address
  pub is : address_with at fields ≡ Some address
  pub sound : IsSoundAddress address

-- Blocks.

-- messages with the key of the field of an address, the first one of a block, with a length as a number
abbrev pub AreListed : Fields → Type 0
AreListed ends = Unit {0}
AreListed (has_message at key inner rest) = (key ≡ 1 * 8 + 2) × AreListed rest
AreListed fields = ⊥

-- addresses of which every rule holds are left of a block
pub record AreSoundLeft (version : Version) (s : Standing) : Type 0 where
  pub part : s.part ≡ BlockPart version
  pub window : IsWindow s.window
  pub fields : Fields
  pub left : left_in s ≡ Ok fields
  pub listed : AreListed fields
  pub sound : AllByRecursion IsSoundAddress (addresses_within fields)

-- the window holds a block of such addresses, of one at least
pub record HoldsBlock (version : Version) (w : Window) : Type 0 where
  pub inside : IsWindow w
  pub fields : Fields
  pub read : message_at (BlockPart version) w ≡ Ok fields
  pub some : 1 ≤ length (addresses_within fields)
  pub sound : AllByRecursion IsSoundAddress (addresses_within fields)

-- each of these ranges does
abbrev pub HoldBlocks : Version → List ℕ → List Payload → Type 0
HoldBlocks version bytes spans = AllByRecursion (λ span. HoldsBlock version (part_of bytes span.from span.to)) spans

-- a check found that every rule holds of the addresses in a window, and left this of them
pub record AreChecked (version : Version) (w : Window) (kept : AddressesKept) : Type 0 where
  pub beside : Beside
  pub are : AreAddressesKept version beside w kept
