-- Addresses, entries and blocks that are read in a straight line.
use Rattle.std.specs.Prelude.{◌≡◌, ℕ, List, [], ◌++◌, Bool, length, Option, Some, Ok}
use Rattle.obf_wire.specs.declared.file.FileBreak.{FileBreak}
use Rattle.obf_wire.specs.Fields.{Window}
use Rattle.file_grammar.specs.declared.parts.Part.TheVariants.{Address as AddressPart, KeyEntry as EntryPart, Keyed as ListPart, KeyedBlock as BlockPart}
use Rattle.file_grammar.specs.declared.parts.Version.{Version}
use Rattle.file_grammar.specs.AddressRules.{Address, KeyEntry, KeyedBlock, addresses_in, entry_with, keyed_block_fact, keyed_facts, keyed_list, lang_in}
use Rattle.file_grammar.specs.BoxRules.{Beside}
use Rattle.file_grammar.specs.Facts.{earlier, failing, first_failing}
use Rattle.file_grammar.specs.Messages.{Fields, ends, has_bytes}
use Rattle.file_grammar.specs.Readings.{message_at, message_from}
use Rattle.addr_section.specs.declared.addresses.AddressSeen.{AddressSeen}
use Rattle.addr_section.specs.declared.addresses.TextSeen.{TextSeen}
use Rattle.addr_section.specs.declared.block_rules.BlockSeen.{BlockSeen}
use Rattle.addr_section.specs.declared.kept.EntryKept.{EntryKept}
use Rattle.addr_section.specs.declared.kept.ListKept.{ListKept}
use Rattle.boxed_exact.specs.declared.fields.Payload.{Payload}
use Rattle.addr_section.specs.Asked.{AreBlocksAsked, IsBlockAsked, pair_facts}
use Rattle.addr_section.specs.Kept.{AreBlocksKept, AreEntriesKept, IsEntryKept, IsListKept, addresses_within}
use Rattle.addr_section.specs.Seen.{IsRead, lang_of}

-- the window holds an address that was seen so
pub record IsAddressRead (version : Version) (w : Window) (at : ℕ) (seen : AddressSeen) : Type 0 where
  pub fields : Fields
  pub read : message_at (AddressPart version) w ≡ Ok fields
  pub seen_is : IsRead at fields seen

-- nothing, or a language
abbrev pub MayBeLang : Fields → Type 0
MayBeLang ends = Unit {0}
MayBeLang (has_bytes at key text rest) = Unit {0}
MayBeLang fields = ⊥

-- after the points of an address nothing is left, or this language
pub record IsLangRead (version : Version) (w : Window) (lang : Option TextSeen) : Type 0 where
  pub rest : Fields
  pub read : message_from (AddressPart version) (Some 50) w ≡ Ok rest
  pub is : lang_of lang ≡ lang_in rest
  pub may : MayBeLang rest

-- the window holds an entry that stands so
pub record IsEntryRead (w : Window) (at : ℕ) (kept : EntryKept) : Type 0 where
  pub fields : Fields
  pub entry : KeyEntry
  pub read : message_at EntryPart w ≡ Ok fields
  pub is : entry_with at fields ≡ Some entry
  pub kept_is : IsEntryKept w.bytes kept entry

-- the window holds a block, of whose addresses every rule was asked, after another one
pub record IsBlockRead (houses : Bool) (beside : Beside) (version : Version) (w : Window) (prev : Option Address) (old new : Option FileBreak) (seen : BlockSeen) : Type 0 where
  pub fields : Fields
  pub read : message_at (BlockPart version) w ≡ Ok fields
  pub asked : IsBlockAsked houses beside prev (addresses_within fields) old new seen

-- the window begins with these entries, which were put, up to an offset; what is a list from there on is one with them
pub record AreEntriesRead (version : Version) (w : Window) (old new : List EntryKept) (at : ℕ) : Type 0 where
  pub more : List EntryKept
  pub put : new ≡ old ++ more
  pub entries : List KeyEntry
  pub kept : AreEntriesKept w.bytes more entries
  pub join : Fields → Fields
  pub read : (rest : Fields) → message_from (ListPart version) (Some 10) (record w { place = at }) ≡ Ok rest → message_at (ListPart version) w ≡ Ok (join rest)
  pub entries_are : (rest : Fields) → (keyed_list (join rest)).entries ≡ entries ++ (keyed_list rest).entries
  pub blocks_are : (rest : Fields) → (keyed_list (join rest)).blocks ≡ (keyed_list rest).blocks

-- the window holds blocks, which were put, and every rule of them was asked beside these entries
pub record AreBlocksRead (houses : Bool) (beside : Beside) (version : Version) (w : Window) (keys : List KeyEntry) (start now : Option FileBreak) (old new : List Payload) (count : ℕ) : Type 0 where
  pub fields : Fields
  pub read : message_from (ListPart version) (Some 10) w ≡ Ok fields
  pub spans : List Payload
  pub put : new ≡ old ++ spans
  pub none : (keyed_list fields).entries ≡ []
  pub kept : AreBlocksKept version w.bytes spans (keyed_list fields).blocks
  pub asked : AreBlocksAsked houses beside keys (keyed_list fields).blocks start now count

-- the window holds a list that stands so, and every rule of it was asked
pub record IsListRead (houses : Bool) (beside : Beside) (version : Version) (w : Window) (start now : Option FileBreak) (kept : ListKept) (count : ℕ) : Type 0 where
  pub fields : Fields
  pub read : message_at (ListPart version) w ≡ Ok fields
  pub kept_is : IsListKept version w.bytes kept (keyed_list fields)
  pub asked : now ≡ earlier start (first_failing (keyed_facts houses beside (keyed_list fields)))
  pub counted : count ≡ length (addresses_in (keyed_list fields).blocks)

-- the number of the addresses of a block, and its entry, were asked
pub record IsBlockNamed (start : ℕ) (keys : List KeyEntry) (it : KeyedBlock) (old new : Option FileBreak) : Type 0 where
  pub mid : Option FileBreak
  pub count : mid ≡ earlier old (failing (keyed_block_fact it))
  pub pair : new ≡ earlier mid (first_failing (pair_facts start keys it))
