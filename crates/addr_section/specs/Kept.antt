-- What a check leaves of addresses.
use Rattle.std.specs.Prelude.{◌≡◌, ℕ, List, [], ◌∷◌, filter_map, length, slice_range, Ok}
use Rattle.obf_wire.specs.Fields.{Window, IsWindow, part_of}
use Rattle.file_grammar.specs.declared.parts.Part.TheVariants.{Addresses, KeyedBlock as BlockPart}
use Rattle.file_grammar.specs.declared.parts.Version.{Version}
use Rattle.file_grammar.specs.AddressRules.{Address, Addresses as AddressLists, KeyEntry, KeyedBlock, KeyedList, address_records_in, address_with, addresses_facts, addresses_of}
use Rattle.file_grammar.specs.BoxRules.{Beside}
use Rattle.file_grammar.specs.Facts.{AllHold}
use Rattle.file_grammar.specs.Messages.{Fields}
use Rattle.file_grammar.specs.Readings.{message_at}
use Rattle.file_grammar.specs.Sections.{Placed, messages_in}
use Rattle.boxed_exact.specs.declared.fields.Number.{Number}
use Rattle.boxed_exact.specs.declared.fields.Payload.{Payload}
use Rattle.addr_section.specs.declared.kept.AddressesKept.{AddressesKept}
use Rattle.addr_section.specs.declared.kept.EntryKept.{EntryKept}
use Rattle.addr_section.specs.declared.kept.ListKept.{ListKept}

-- the text stands there among the bytes, and its field at that offset
pub record IsTextAt (bytes : List ℕ) (span : Payload) (text : Placed (List ℕ)) : Type 0 where
  pub inside : IsWindow (part_of bytes span.from span.to)
  pub at_is : span.at ≡ text.at
  pub is : slice_range bytes span.from span.to ≡ text.value

-- the number is this one
pub record IsNumberAt (n : Number) (p : Placed ℕ) : Type 0 where
  pub at_is : n.at ≡ p.at
  pub is : n.value ≡ p.value

-- the entry stands so among the bytes
pub record IsEntryKept (bytes : List ℕ) (kept : EntryKept) (entry : KeyEntry) : Type 0 where
  pub at_is : kept.at ≡ entry.at
  pub first : IsTextAt bytes kept.first entry.first
  pub last : IsTextAt bytes kept.last entry.last
  pub place : IsNumberAt kept.place entry.place

-- each entry stands so
abbrev pub AreEntriesKept : List ℕ → List EntryKept → List KeyEntry → Type 0
AreEntriesKept bytes [] [] = Unit {0}
AreEntriesKept bytes (kept ∷ more) (entry ∷ entries) = IsEntryKept bytes kept entry × AreEntriesKept bytes more entries
AreEntriesKept bytes kept entries = ⊥

-- the addresses in the fields of a block
abbrev pub addresses_within : Fields → List Address
addresses_within fields = filter_map (λ a. address_with a.at a.value) (messages_in fields)

-- the message of the block stands there among the bytes
pub record IsBlockKept (version : Version) (bytes : List ℕ) (span : Payload) (block : KeyedBlock) : Type 0 where
  pub inside : IsWindow (part_of bytes span.from span.to)
  pub fields : Fields
  pub read : message_at (BlockPart version) (part_of bytes span.from span.to) ≡ Ok fields
  pub at_is : span.at ≡ block.at
  pub is : block.addresses ≡ addresses_within fields

-- each block stands so
abbrev pub AreBlocksKept : Version → List ℕ → List Payload → List KeyedBlock → Type 0
AreBlocksKept version bytes [] [] = Unit {0}
AreBlocksKept version bytes (span ∷ spans) (block ∷ blocks) = IsBlockKept version bytes span block × AreBlocksKept version bytes spans blocks
AreBlocksKept version bytes spans blocks = ⊥

-- the list stands so among the bytes
pub record IsListKept (version : Version) (bytes : List ℕ) (kept : ListKept) (list : KeyedList) : Type 0 where
  pub entries : AreEntriesKept bytes kept.entries.items list.entries
  pub blocks : AreBlocksKept version bytes kept.blocks.items list.blocks

-- both lists stand so among the bytes
pub record AreListsKept (version : Version) (bytes : List ℕ) (names houses : ListKept) (addresses : AddressLists) : Type 0 where
  pub names_are : IsListKept version bytes names addresses.names
  pub houses_are : IsListKept version bytes houses addresses.houses

-- the window holds addresses of which every rule holds, whose lists stand so, and so many records
pub record AreAddressesKept (version : Version) (beside : Beside) (w : Window) (kept : AddressesKept) : Type 0 where
  pub fields : Fields
  pub read : message_at (Addresses version) w ≡ Ok fields
  pub sound : AllHold (addresses_facts beside (addresses_of fields))
  pub names : IsListKept version w.bytes kept.names (addresses_of fields).names
  pub houses : IsListKept version w.bytes kept.houses (addresses_of fields).houses
  pub records : kept.records ≡ length (address_records_in (addresses_of fields))
