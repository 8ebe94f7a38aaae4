-- The addresses of a section of which a check left where its blocks stand.
use Rattle.std.proofs.Common.{◌≡◌, ◌≤◌, ℕ, Bool, true, false, List, [], ◌∷◌, ◌++◌, length, map, Option, Some, None, Result, Ok, refl, sym, ap, subst, ◌∙◌}
use Rattle.std.specs.Prelude.{flat_map, nat_le}
use Rattle.std.specs.List.{AllByRecursion}
use Rattle.std.proofs.lemmas.Bool.{and_parts, leb-true}
use Rattle.std.proofs.lemmas.Grind.{flat_map-append}
use Rattle.std.proofs.lemmas.List.{map-append}
use Rattle.live_model.specs.declared.addresses.AddrRec.{AddrRec}
use Rattle.obf_wire.specs.declared.file.FileBreak.{FileBreak}
use Rattle.obf_wire.specs.Fields.{Window}
use Rattle.file_grammar.specs.declared.parts.Part.TheVariants.{Addresses as AddressesPart}
use Rattle.file_grammar.specs.declared.parts.Version.{Version}
use Rattle.file_grammar.specs.AddressRules.{Address, Addresses, KeyedBlock, KeyedList, address_facts, address_record_of, address_records_in, addresses_in, addresses_of, entry_facts, entry_pairs, first_at, keyed_block_fact, keyed_facts, list_records}
use Rattle.file_grammar.specs.BoxRules.{Beside}
use Rattle.file_grammar.specs.Facts.{AllHold, Fact}
use Rattle.file_grammar.specs.Messages.{Fields}
use Rattle.file_grammar.specs.Readings.{message_at}
use Rattle.boxed_exact.specs.declared.fields.Payload.{Payload}
use Rattle.boxed_laws.proofs.FittingRecords.{Holds, all_before, all_behind}
use Rattle.boxed_read.specs.Records.{fields_read}
use Rattle.boxed_read.specs.Steps.{joined}
use Rattle.addr_section.specs.declared.kept.AddressesKept.{AddressesKept}
use Rattle.addr_section.specs.Asked.{all_facts}
use Rattle.addr_section.specs.Kept.{AreBlocksKept}
use Rattle.addr_read.specs.Records.{address_blocks, list_blocks, records_in, records_of}
use Rattle.addr_read.specs.Sound.{AreChecked, HoldBlocks, IsSoundAddress}

-- ---- every rule holds of each block

sound_all : (houses : Bool) (beside : Beside) (prev : Option Address) (xs : List Address) → AllHold (all_facts houses beside prev xs) → AllByRecursion IsSoundAddress xs
sound_all houses beside prev [] all = tt
sound_all houses beside prev (x ∷ xs) all =
    let front : List Fact = address_facts houses beside (prev, x) in
    let rest : List Fact = all_facts houses beside (Some x) xs in
    (record { houses = houses; beside = beside; prev = prev; facts = all_before Holds front rest all }, sound_all houses beside (Some x) xs (all_behind Holds front rest all))

blocks_hold : (version : Version) (bytes : List ℕ) (spans : List Payload) (blocks : List KeyedBlock) → AreBlocksKept version bytes spans blocks → AllHold (map keyed_block_fact blocks) → AllByRecursion IsSoundAddress (addresses_in blocks)
    → HoldBlocks version bytes spans
blocks_hold version bytes [] blocks are counts sound = tt
blocks_hold version bytes (span ∷ spans) [] are counts sound = absurd are
blocks_hold version bytes (span ∷ spans) (block ∷ blocks) are counts sound =
    let some = leb-true 1 (length block.addresses) (and_parts (nat_le 1 (length block.addresses)) (nat_le (length block.addresses) 64) counts.0).0 in (
      record {
        inside = are.0.inside;
        fields = are.0.fields;
        read = are.0.read;
        some = subst (λ (xs : List Address). 1 ≤ length xs) are.0.is some;
        sound = subst (AllByRecursion IsSoundAddress) are.0.is (all_before IsSoundAddress block.addresses (addresses_in blocks) sound);
      },
      blocks_hold version bytes spans blocks are.1 counts.1 (all_behind IsSoundAddress block.addresses (addresses_in blocks) sound),
    )

list_holds : (version : Version) (houses : Bool) (beside : Beside) (bytes : List ℕ) (spans : List Payload) (list : KeyedList) → AreBlocksKept version bytes spans list.blocks → AllHold (keyed_facts houses beside list)
    → HoldBlocks version bytes spans
unfolding keyed_facts
list_holds version houses beside bytes spans list are all =
    let front : List Fact = flat_map entry_facts list.entries ++ entry_pairs (first_at list.blocks) list.entries list.blocks in
    let counts : List Fact = map keyed_block_fact list.blocks in
    let addresses : List Fact = all_facts houses beside None (addresses_in list.blocks) in
    blocks_hold version bytes spans list.blocks are (all_behind Holds front counts (all_before Holds (front ++ counts) addresses all))
    (sound_all houses beside None (addresses_in list.blocks) (all_behind Holds (front ++ counts) addresses all))

-- the blocks of names, and those of houses
pub names_hold : (version : Version) (w : Window) (kept : AddressesKept) → AreChecked version w kept → HoldBlocks version w.bytes kept.names.blocks.items
names_hold version w kept h =
    let all = addresses_of h.are.fields in
    list_holds version false h.beside w.bytes kept.names.blocks.items all.names h.are.names.blocks (all_before Holds (keyed_facts false h.beside all.names) (keyed_facts true h.beside all.houses) h.are.sound)

pub houses_hold : (version : Version) (w : Window) (kept : AddressesKept) → AreChecked version w kept → HoldBlocks version w.bytes kept.houses.blocks.items
houses_hold version w kept h =
    let all = addresses_of h.are.fields in
    list_holds version true h.beside w.bytes kept.houses.blocks.items all.houses h.are.houses.blocks (all_behind Holds (keyed_facts false h.beside all.names) (keyed_facts true h.beside all.houses) h.are.sound)

-- ---- the records

pub spans_read : (version : Version) (bytes : List ℕ) (spans : List Payload) (blocks : List KeyedBlock) → AreBlocksKept version bytes spans blocks
    → records_of version bytes spans ≡ map (λ block. map address_record_of block.addresses) blocks
spans_read version bytes [] [] are = refl
spans_read version bytes [] (block ∷ blocks) are = absurd are
spans_read version bytes (span ∷ spans) [] are = absurd are
spans_read version bytes (span ∷ spans) (block ∷ blocks) are =
    let here : List (List AddrRec) = records_of version bytes spans in
    ap (λ (r : Result Fields FileBreak). records_in (fields_read r) ∷ here) are.0.read
    ∙ ap (λ (xs : List Address). map address_record_of xs ∷ here) (sym are.0.is)
    ∙ ap (λ (rest : List (List AddrRec)). map address_record_of block.addresses ∷ rest) (spans_read version bytes spans blocks are.1)

abbrev records_read : Version → Window → AddressesKept → List (List AddrRec)
records_read version w kept = records_of version w.bytes kept.names.blocks.items ++ records_of version w.bytes kept.houses.blocks.items

-- what was kept of a section is where its records stand
pub section_read : (version : Version) (w : Window) (kept : AddressesKept) (fields : Fields) → AreChecked version w kept → message_at (AddressesPart version) w ≡ Ok fields → records_read version w kept ≡ address_blocks (addresses_of fields)
section_read version w kept fields h e =
    let same : h.are.fields ≡ fields = let both = sym h.are.read ∙ e in cc in
    let all = addresses_of h.are.fields in
    ap (λ (names : List (List AddrRec)). names ++ records_of version w.bytes kept.houses.blocks.items) (spans_read version w.bytes kept.names.blocks.items all.names.blocks h.are.names.blocks)
    ∙ ap (λ (houses : List (List AddrRec)). list_blocks all.names ++ houses) (spans_read version w.bytes kept.houses.blocks.items all.houses.blocks h.are.houses.blocks)
    ∙ ap (λ (fs : Fields). address_blocks (addresses_of fs)) same

pub list_joined : (blocks : List KeyedBlock) → joined (map (λ block. map address_record_of block.addresses) blocks) ≡ map address_record_of (addresses_in blocks)
list_joined [] = refl
list_joined (block ∷ blocks) =
    ap (λ (rs : List AddrRec). map address_record_of block.addresses ++ rs) (list_joined blocks) ∙ sym (map-append address_record_of block.addresses (addresses_in blocks))

-- the records of the blocks are those of the section
blocks_joined : (all : Addresses) → joined (address_blocks all) ≡ address_records_in all
blocks_joined all =
    flat_map-append (λ (block : List AddrRec). block) (list_blocks all.names) (list_blocks all.houses)
    ∙ ap (λ (rs : List AddrRec). rs ++ joined (list_blocks all.houses)) (list_joined all.names.blocks)
    ∙ ap (λ (rs : List AddrRec). list_records all.names ++ rs) (list_joined all.houses.blocks)

pub section_joined : (version : Version) (w : Window) (kept : AddressesKept) (fields : Fields) → AreChecked version w kept → message_at (AddressesPart version) w ≡ Ok fields → joined (records_read version w kept) ≡ address_records_in (addresses_of fields)
section_joined version w kept fields h e = ap (λ (bs : List (List AddrRec)). joined bs) (section_read version w kept fields h e) ∙ blocks_joined (addresses_of fields)

-- and so many they are
pub section_counted : (version : Version) (w : Window) (kept : AddressesKept) → AreChecked version w kept → kept.records ≡ length (joined (records_read version w kept))
section_counted version w kept h = h.are.records ∙ ap (λ (rs : List AddrRec). length rs) (sym (section_joined version w kept h.are.fields h h.are.read))
