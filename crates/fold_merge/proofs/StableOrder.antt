-- A stable sort by the order of records puts them in order.
use Rattle.std.proofs.Common.{◌≡◌, List, Bool, true, false, refl, sym, ap, ◌∙◌}
use Rattle.std.specs.Prelude.{filter, ◌&&◌, not}
use Rattle.std.specs.List.Sorted.{IsSorted, ties}
use Rattle.std.specs.Ordering.{is_eq, is_lt, ordering_reverse}
use Rattle.std.specs.declared.cmp.Ordering.{Ordering}
use Rattle.std.specs.declared.cmp.Ordering.TheVariants.{Less, Equal, Greater}
use Rattle.live_model.specs.declared.records.Rec.{Rec}
use Rattle.live_model.specs.Maps.{in_order}
use Rattle.live_model.specs.Records.{record_cmp}
use Rattle.ordered_lists.proofs.PutAll.{filter_alike}
use Rattle.map_laws.proofs.InOrder.{alike, order_of_sorted, ranked}
use Rattle.map_laws.proofs.RecordOrder.{record_total}

-- a record comes before another
abbrev pub before : Rec → Rec → Bool
before a b = is_lt (record_cmp a b)

neither : (r : Ordering) → (not (is_lt r) && not (is_lt (ordering_reverse r))) ≡ is_eq r
neither Less = refl
neither Equal = refl
neither Greater = refl

tied : (a b : Rec) → ties before a b ≡ ranked a b
tied a b = ap (λ (r : Ordering). not (before a b) && not (is_lt r)) (record_total.antisymm b a) ∙ neither (record_cmp a b)

pub sorted_order : (old new : List Rec) → ((z : Rec) → filter (ties before z) new ≡ filter (ties before z) old) → IsSorted record_cmp new → new ≡ in_order old
sorted_order old new stable sorted =
    sym (order_of_sorted new sorted)
    ∙ alike new old (λ z. sym (filter_alike (ties before z) (ranked z) new (tied z)) ∙ stable z ∙ filter_alike (ties before z) (ranked z) old (tied z))
