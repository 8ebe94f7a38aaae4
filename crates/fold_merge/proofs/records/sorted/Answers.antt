use Rattle.std.proofs.Common.{rules}
use Rattle.std.specs.List.Sorted.{IsSorted}
use Rattle.std.proofs.lemmas.List.MinMax.{ranks_by}
use Rattle.std.proofs.lemmas.List.Sorted.{answers_always}
use Rattle.live_model.specs.declared.records.Rec.{Rec}
use Rattle.live_model.specs.Records.{record_cmp}
use Rattle.map_laws.proofs.RecordOrder.{record_total}
use Rattle.fold_merge.proofs.StableOrder.{before, sorted_order}
use Rattle.fold_merge.proofs.records.sorted.Goals as goal

pub returns : goal.returns
returns c =
    let order = ranks_by record_total (λ (r : Rec). r) in
    let sorted : IsSorted record_cmp c.sort_by.new.self.items = c.in_ok-sort_by.ensures.sorted before order (answers_always _ _ _ (λ f a r f' k. search rules)) in
    let stable = c.sort_by.ensures.stable before order (answers_always _ _ _ (λ f a r f' k. search rules)) in
    sorted_order c.args.records.items c.sort_by.new.self.items stable sorted
