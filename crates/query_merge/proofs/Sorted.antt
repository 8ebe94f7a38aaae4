-- A stable sort puts records in order.
use Rattle.std.proofs.Common.{◌≡◌, Bool, List, not, refl, sym, ap, ◌∙◌}
use Rattle.std.specs.Prelude.{◌&&◌, filter}
use Rattle.std.specs.List.Sorted.{IsSortedBy, ties}
use Rattle.std.specs.Ordering.{is_eq, is_lt, ordering_reverse}
use Rattle.std.specs.declared.cmp.Ordering.{Ordering}
use Rattle.std.specs.declared.cmp.Ordering.TheVariants.{Less, Equal, Greater}
use Rattle.live_model.specs.declared.records.Rec.{Rec}
use Rattle.live_model.specs.Maps.{in_order}
use Rattle.live_model.specs.Records.{record_cmp}
use Rattle.map_laws.proofs.InOrder.{alike, order_of_sorted, ranked}
use Rattle.map_laws.proofs.RecordOrder.{record_total}

abbrev pub comes_before : Rec → Rec → Bool
comes_before a b = is_lt (record_cmp a b)

neither : (r : Ordering) → (not (is_lt r) && not (is_lt (ordering_reverse r))) ≡ is_eq r
neither Less = refl
neither Equal = refl
neither Greater = refl

ties_are : (a b : Rec) → ties comes_before a b ≡ ranked a b
ties_are a b = ap (λ (r : Ordering). not (is_lt (record_cmp a b)) && not (is_lt r)) (record_total.antisymm b a) ∙ neither (record_cmp a b)

kept_alike : (a : Rec) (xs : List Rec) → filter (ties comes_before a) xs ≡ filter (ranked a) xs
kept_alike a xs = λ i. filter (λ b. ties_are a b i) xs

pub in_order_by : (xs ys : List Rec) → ((a : Rec) → filter (ties comes_before a) ys ≡ filter (ties comes_before a) xs) → IsSortedBy comes_before ys → ys ≡ in_order xs
in_order_by xs ys stable sorted = sym (order_of_sorted ys sorted) ∙ alike ys xs (λ a. sym (kept_alike a ys) ∙ stable a ∙ kept_alike a xs)
