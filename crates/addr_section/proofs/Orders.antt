-- The order in which addresses are packed.
use Rattle.std.proofs.Common.{◌≡◌, ℕ, List, false, map, subst}
use Rattle.std.specs.List.{AllByRecursion}
use Rattle.std.specs.List.Sorted.{IsPermutation, IsSorted}
use Rattle.std.specs.Ordering.{nat_cmp, ordering_then, is_gt}
use Rattle.std.specs.declared.cmp.Ordering.TheVariants.{Equal}
use Rattle.std.specs.Cmp.{IsTotalOrder}
use Rattle.std.proofs.lemmas.Cmp.{nat_cmp_total, nat_list_cmp_total, on_total, then_total}
use Rattle.std.proofs.lemmas.List.Sorted.{IsPermutation-map}
use Rattle.name_fold.specs.Keys.{key}
use Rattle.live_model.specs.declared.addresses.AddrRec.{AddrRec}
use Rattle.live_model.specs.declared.records.Rec.TheVariants.{Addr}
use Rattle.live_model.specs.Fits.{FitsAddress}
use Rattle.live_model.specs.Records.{address_rank, record_cmp}
use Rattle.map_laws.proofs.RecordOrder.{record_total, same_record, then_equal}
use Rattle.text_table.specs.Tables.{text_cmp}
use Rattle.boxed_write.specs.Packed.{sorted_by}
use Rattle.boxed_write.proofs.Sorting.{all_moved, sorted_is, up_from_sorted, up_image}
use Rattle.addr_section.specs.declared.order.Keyed.{Keyed}
use Rattle.addr_section.specs.Packed.{keyed_cmp}
use Rattle.addr_section.specs.Keyed.{IsKeyed, addresses_of, beside_cmp}

pub keyed_total : IsTotalOrder keyed_cmp
keyed_total =
    then_total (on_total (λ (a : AddrRec). key a.name) nat_list_cmp_total)
    (then_total (on_total (λ (a : AddrRec). address_rank a.kind) nat_cmp_total) (on_total (λ (a : AddrRec). Addr a) record_total))

pub beside_total : IsTotalOrder beside_cmp
beside_total =
    then_total (on_total (λ (k : Keyed). k.key) nat_list_cmp_total)
    (then_total (on_total (λ (k : Keyed). address_rank k.address.now.kind) nat_cmp_total) (on_total (λ (k : Keyed). Addr k.address.now) record_total))

one_address : (a b : AddrRec) → Addr a ≡ Addr b → a ≡ b
one_address a b e = cc

-- addresses that tie are one
pub same_keyed : (a b : AddrRec) → FitsAddress a → FitsAddress b → keyed_cmp a b ≡ Equal → a ≡ b
same_keyed a b good_a good_b e =
    let rest = then_equal (text_cmp (key a.name) (key b.name)) (ordering_then (nat_cmp (address_rank a.kind) (address_rank b.kind)) (record_cmp (Addr a) (Addr b))) e in
    one_address a b (same_record (Addr a) (Addr b) good_a.id good_b.id (then_equal (nat_cmp (address_rank a.kind) (address_rank b.kind)) (record_cmp (Addr a) (Addr b)) rest))

keeps : (a b : Keyed) → IsKeyed a → IsKeyed b → is_gt (beside_cmp a b) ≡ false → is_gt (keyed_cmp a.address.now b.address.now) ≡ false
keeps a b ka kb up =
    let rest = ordering_then (nat_cmp (address_rank a.address.now.kind) (address_rank b.address.now.kind)) (record_cmp (Addr a.address.now) (Addr b.address.now)) in
    subst (λ (k : List ℕ). is_gt (ordering_then (text_cmp k (key b.address.now.name)) rest) ≡ false) ka
    (subst (λ (k : List ℕ). is_gt (ordering_then (text_cmp a.key k) rest) ≡ false) kb up)

-- what was sorted beside its keys is in the order of its list
pub keyed_sorted : (records : List AddrRec) (before after : List Keyed) → AllByRecursion FitsAddress records → addresses_of before ≡ records → AllByRecursion IsKeyed before → IsPermutation before after → IsSorted beside_cmp after
    → addresses_of after ≡ sorted_by keyed_cmp records
keyed_sorted records before after all is keyed moved sorted =
    let f : Keyed → AddrRec = λ k. k.address.now in
    sorted_is keyed_cmp keyed_total FitsAddress same_keyed records (map f after) all
    (subst (λ (rs : List AddrRec). IsPermutation rs (map f after)) is (IsPermutation-map f before after moved))
    (up_image beside_cmp keyed_cmp f IsKeyed keeps after (all_moved IsKeyed before after moved keyed) (up_from_sorted beside_cmp beside_total after sorted))
