-- Each record stands in one of the lists.
use Rattle.std.proofs.Common.{◌≡◌, Bool, List, ◌++◌, false, true, refl}
use Rattle.std.specs.Prelude.{filter, not}
use Rattle.std.proofs.lemmas.List.Sorted.{IsPermutation-append, IsPermutation-filter_both, IsPermutation-trans}
use Rattle.live_model.specs.declared.addresses.AddrRec.{AddrRec}
use Rattle.live_model.specs.Maps.{is_house}
use Rattle.boxed_write.specs.Packed.{sorted_by}
use Rattle.boxed_laws.proofs.KeptItems.{moved_sorted}
use Rattle.addr_section.specs.Laws.{KeptLaw, in_lists}
use Rattle.addr_section.specs.Packed.{is_listed, keyed_cmp}

twice : (b : Bool) → b ≡ not (not b)
twice true = refl
twice false = refl

-- what is not in one list is in the other
other : (a : AddrRec) → is_listed true a ≡ not (is_listed false a)
other a = twice (is_house a.kind)

pub kept : KeptLaw
kept records =
    let names : List AddrRec = filter (is_listed false) records in
    let houses : List AddrRec = filter (is_listed true) records in
    IsPermutation-trans records (names ++ houses) (in_lists records) (IsPermutation-filter_both (is_listed false) (is_listed true) other records)
    (IsPermutation-append names (sorted_by keyed_cmp names) houses (sorted_by keyed_cmp houses) (moved_sorted keyed_cmp names) (moved_sorted keyed_cmp houses))
