-- Records in order are those that the sections of a file hold, put in order.
use Rattle.std.proofs.Common.{◌≡◌, List, [], ◌∷◌, refl, sym, ap, ◌∙◌}
use Rattle.std.specs.Prelude.{if◌then◌else◌}
use Rattle.std.specs.List.{AllByRecursion}
use Rattle.std.specs.List.Sorted.{IsPermutation, IsSorted}
use Rattle.std.specs.Ordering.{is_le}
use Rattle.std.proofs.lemmas.List.Sorted.{IsPermutation-refl, IsPermutation-trans}
use Rattle.live_model.specs.declared.records.Rec.{Rec}
use Rattle.live_model.specs.Ids.{IsId}
use Rattle.live_model.specs.Maps as M
use Rattle.live_model.specs.Maps.{in_order}
use Rattle.live_model.specs.Records.{record_cmp, record_id}
use Rattle.map_laws.proofs.RecordOrder.{record_total, same_record}
use Rattle.boxed_write.specs.Packed.{placed, sorted_by}
use Rattle.boxed_write.proofs.Sorting.{sorted_is, up_from_sorted}
use Rattle.boxed_laws.proofs.KeptItems.{moved_sorted, up_in_order}

-- a record of an object
abbrev HasObject : Rec → Type 0
HasObject r = IsId (record_id r)

placed_alike : (r : Rec) (rs : List Rec) → M.placed r rs ≡ placed record_cmp r rs
placed_alike r [] = refl
placed_alike r (x ∷ xs) = ap (λ (ys : List Rec). if is_le (record_cmp r x) then r ∷ x ∷ xs else x ∷ ys) (placed_alike r xs)

order_alike : (rs : List Rec) → in_order rs ≡ sorted_by record_cmp rs
order_alike [] = refl
order_alike (r ∷ rs) = ap (M.placed r) (order_alike rs) ∙ placed_alike r (sorted_by record_cmp rs)

-- what stands in order is what is put in order, wherever it stood
pub order_again : (records others : List Rec) → AllByRecursion (λ r. IsId (record_id r)) records → IsSorted record_cmp records → IsPermutation records others → records ≡ in_order others
order_again records others ids sorted moved =
    sorted_is record_cmp record_total HasObject same_record records records ids (IsPermutation-refl records) (up_from_sorted record_cmp record_total records sorted)
    ∙ sym (sorted_is record_cmp record_total HasObject same_record records (sorted_by record_cmp others) ids
    (IsPermutation-trans records others (sorted_by record_cmp others) moved (moved_sorted record_cmp others)) (up_in_order record_cmp record_total others))
    ∙ sym (order_alike others)
