-- What is found in a section of which every rule holds.
use Rattle.std.proofs.Common.{◌≡◌, ℕ, Bool, true, false, List, [], ◌∷◌, ◌++◌, map, take, drop, zero, suc, refl, sym, ap, ◌∙◌}
use Rattle.std.specs.Prelude.{filter}
use Rattle.std.specs.List.{AllByRecursion}
use Rattle.std.proofs.lemmas.List.{append-nil, drop-map, take-map}
use Rattle.std.proofs.lemmas.List.Elements.{filter-append}
use Rattle.ordered_lists.proofs.PutAll.{all_append}
use Rattle.live_model.specs.declared.addresses.AddrRec.{AddrRec}
use Rattle.obf_wire.specs.Fields.{Window, part_of}
use Rattle.file_grammar.specs.declared.parts.Version.{Version}
use Rattle.file_grammar.specs.AddressRules.{addresses_of, first_of, keyed_facts, last_of}
use Rattle.boxed_exact.specs.declared.fields.Payload.{Payload}
use Rattle.boxed_laws.proofs.FittingRecords.{Holds, all_before, all_behind}
use Rattle.boxed_read.specs.Steps.{joined}
use Rattle.addr_section.specs.declared.kept.AddressesKept.{AddressesKept}
use Rattle.addr_read.specs.Finding.{due_blocks, is_wanted, may_hold}
use Rattle.addr_read.specs.Records.{records_at, records_of}
use Rattle.addr_read.specs.Searching.{between}
use Rattle.addr_read.specs.Sound.{AreChecked}
use Rattle.addr_read.proofs.Due.{due_are}
use Rattle.addr_read.proofs.Keyed.{IsKeyedBlock, found_in, none_other}
use Rattle.addr_read.proofs.Searched.{IsSearched, list_searched}

-- what holds of all holds of a part
all_drop : {A : Type 0} (P : A → Type 0) (n : ℕ) (xs : List A) → AllByRecursion P xs → AllByRecursion P (drop n xs)
all_drop P zero xs all = all
all_drop P (suc n) [] all = tt
all_drop P (suc n) (x ∷ xs) all = all_drop P n xs all.1

all_take : {A : Type 0} (P : A → Type 0) (n : ℕ) (xs : List A) → AllByRecursion P xs → AllByRecursion P (take n xs)
all_take P zero xs all = tt
all_take P (suc n) [] all = tt
all_take P (suc n) (x ∷ xs) all = (all.0, all_take P n xs all.1)

pub all_part : {A : Type 0} (P : A → Type 0) (n m : ℕ) (xs : List A) → AllByRecursion P xs → AllByRecursion P (take n (drop m xs))
all_part P n m xs all = all_take P n (drop m xs) (all_drop P m xs all)

-- the records of the blocks between two places
read_between : (version : Version) (bytes : List ℕ) (n m : ℕ) (spans : List Payload) → records_of version bytes (take n (drop m spans)) ≡ take n (drop m (records_of version bytes spans))
read_between version bytes n m spans =
    let f : Payload → List AddrRec = λ span. records_at version (part_of bytes span.from span.to) in
    sym (take-map f n (drop m spans)) ∙ ap (take n) (sym (drop-map f m spans))

module _ (version : Version) (w : Window) (kept : AddressesKept) (h : AreChecked version w kept) where
  pub names_searched : IsSearched false w.bytes kept.names.entries.items (records_of version w.bytes kept.names.blocks.items)
  names_searched =
      let all = addresses_of h.are.fields in
      list_searched version false h.beside w.bytes kept.names all.names h.are.names (all_before Holds (keyed_facts false h.beside all.names) (keyed_facts true h.beside all.houses) h.are.sound)

  pub houses_searched : IsSearched true w.bytes kept.houses.entries.items (records_of version w.bytes kept.houses.blocks.items)
  houses_searched =
      let all = addresses_of h.are.fields in
      list_searched version true h.beside w.bytes kept.houses all.houses h.are.houses (all_behind Holds (keyed_facts false h.beside all.names) (keyed_facts true h.beside all.houses) h.are.sound)

  module _ (k : List ℕ) where
    -- the blocks that a search over the list of names finds are those that are due for a prefix
    pub prefix_due : records_of version w.bytes (between w.bytes false k kept.names.entries.items kept.names.blocks.items)
        ≡ due_blocks false k (records_of version w.bytes kept.names.blocks.items ++ records_of version w.bytes kept.houses.blocks.items)
    prefix_due =
        let names = records_of version w.bytes kept.names.blocks.items in
        let houses = records_of version w.bytes kept.houses.blocks.items in
        read_between version w.bytes _ _ kept.names.blocks.items ∙ sym (due_are false w.bytes k kept.names.entries.items names names_searched.ends names_searched.rising)
        ∙ sym (filter-append (λ block. may_hold false k (first_of block) (last_of block)) names houses ∙ ap (λ (more : List (List AddrRec)). due_blocks false k names ++ more) (none_other false k true houses refl houses_searched.kinds) ∙ append-nil (due_blocks false k names))

    -- and those over the list of houses are due for a street
    pub street_due : records_of version w.bytes (between w.bytes true k kept.houses.entries.items kept.houses.blocks.items)
        ≡ due_blocks true k (records_of version w.bytes kept.names.blocks.items ++ records_of version w.bytes kept.houses.blocks.items)
    street_due =
        let names = records_of version w.bytes kept.names.blocks.items in
        let houses = records_of version w.bytes kept.houses.blocks.items in
        read_between version w.bytes _ _ kept.houses.blocks.items ∙ sym (due_are true w.bytes k kept.houses.entries.items houses houses_searched.ends houses_searched.rising)
        ∙ sym (filter-append (λ block. may_hold true k (first_of block) (last_of block)) names houses ∙ ap (λ (front : List (List AddrRec)). front ++ due_blocks true k houses) (none_other true k false names refl names_searched.kinds))

    -- all that is found stands in the blocks that are due
    pub all_found : (houses : Bool) → joined (map (filter (is_wanted houses k)) (due_blocks houses k (records_of version w.bytes kept.names.blocks.items ++ records_of version w.bytes kept.houses.blocks.items)))
        ≡ filter (is_wanted houses k) (joined (records_of version w.bytes kept.names.blocks.items ++ records_of version w.bytes kept.houses.blocks.items))
    all_found houses =
        found_in houses k (records_of version w.bytes kept.names.blocks.items ++ records_of version w.bytes kept.houses.blocks.items)
        (all_append IsKeyedBlock (records_of version w.bytes kept.names.blocks.items) (records_of version w.bytes kept.houses.blocks.items) names_searched.blocks houses_searched.blocks)
