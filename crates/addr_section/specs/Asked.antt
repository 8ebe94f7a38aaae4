-- Addresses, blocks and lists of which every rule was asked.
use Rattle.std.specs.Prelude.{◌≡◌, ℕ, List, [], ◌∷◌, ◌++◌, Bool, false, flat_map, length, map, Option, None, Some}
use Rattle.obf_wire.specs.declared.file.FileBreak.{FileBreak}
use Rattle.obf_wire.specs.declared.file.FileKind.TheVariants.{BadPlace}
use Rattle.file_grammar.specs.AddressRules.{Address, KeyEntry, KeyedBlock, address_facts, address_with, addresses_in, entry_pairs, first_at, first_of, key_facts, keyed_block_fact, last_of}
use Rattle.file_grammar.specs.BoxRules.{Beside, with_before}
use Rattle.file_grammar.specs.Facts.{Fact, earlier, fact, first_failing}
use Rattle.file_grammar.specs.Messages.{Fields}
use Rattle.addr_section.specs.declared.addresses.SortKey.{SortKey}
use Rattle.addr_section.specs.declared.block_rules.BlockSeen.{BlockSeen}
use Rattle.addr_section.specs.Seen.{IsSortKey, IsSortKeyOf}

-- every rule of the address in these fields was asked, after another one
pub record IsAddressAsked (houses : Bool) (beside : Beside) (prev : Option Address) (at : ℕ) (fields : Fields) (old new : Option FileBreak) (key : SortKey) : Type 0 where
  pub address : Address
  pub is : address_with at fields ≡ Some address
  pub key_is : IsSortKey key address
  pub asked : new ≡ earlier old (first_failing (address_facts houses beside (prev, address)))

-- the rules of addresses, one after another
abbrev pub all_facts : Bool → Beside → Option Address → List Address → List Fact
all_facts houses beside prev addresses = flat_map (address_facts houses beside) (with_before prev addresses)

-- every rule of the addresses of a block was asked, after another one
pub record IsBlockAsked (houses : Bool) (beside : Beside) (prev : Option Address) (addresses : List Address) (old new : Option FileBreak) (seen : BlockSeen) : Type 0 where
  pub asked : new ≡ earlier old (first_failing (all_facts houses beside prev addresses))
  pub count : seen.count ≡ length addresses
  pub first : IsSortKeyOf seen.first (first_of addresses)
  pub last : IsSortKeyOf seen.last (last_of addresses)

-- the rules of a block and the first of the entries that are left
abbrev pub pair_facts : ℕ → List KeyEntry → KeyedBlock → List Fact
pair_facts start [] block = fact block.at BadPlace false ∷ []
pair_facts start (entry ∷ entries) block = key_facts start entry block

-- the rules of a block: those of it beside its entry, of its number of addresses, and of its addresses
abbrev pub block_facts : Bool → Beside → ℕ → List KeyEntry → Option Address → KeyedBlock → List Fact
block_facts houses beside start entries prev block = pair_facts start entries block ++ keyed_block_fact block ∷ all_facts houses beside prev block.addresses

-- the rules of blocks beside the entries that are left
abbrev pub blocks_facts : Bool → Beside → ℕ → List KeyEntry → Option Address → List KeyedBlock → List Fact
blocks_facts houses beside start entries prev blocks = entry_pairs start entries blocks ++ map keyed_block_fact blocks ++ all_facts houses beside prev (addresses_in blocks)

-- every rule of a block was asked, after another address
pub record IsPairAsked (houses : Bool) (beside : Beside) (start : ℕ) (entries : List KeyEntry) (prev : Option Address) (block : KeyedBlock) (old new : Option FileBreak) (seen : BlockSeen) : Type 0 where
  pub asked : new ≡ earlier old (first_failing (block_facts houses beside start entries prev block))
  pub count : seen.count ≡ length block.addresses
  pub last : IsSortKeyOf seen.last (last_of block.addresses)

-- entries without a block were told
abbrev pub AreUnnamed : List KeyEntry → Option FileBreak → Option FileBreak → Type 0
AreUnnamed entries old new = new ≡ earlier old (first_failing (map (λ e. fact e.place.at BadPlace false) entries))

-- every rule of blocks beside their entries was asked
pub record AreBlocksAsked (houses : Bool) (beside : Beside) (entries : List KeyEntry) (blocks : List KeyedBlock) (old new : Option FileBreak) (count : ℕ) : Type 0 where
  pub asked : new ≡ earlier old (first_failing (blocks_facts houses beside (first_at blocks) entries None blocks))
  pub count_is : count ≡ length (addresses_in blocks)
