use Rattle.std.proofs.Common.{rules}
use Rattle.std.proofs.lemmas.List.MinMax.{ranks_by}
use Rattle.std.proofs.lemmas.List.Sorted.{answers_always}
use Rattle.live_model.specs.declared.records.Rec.{Rec}
use Rattle.map_laws.proofs.RecordOrder.{record_total}
use Rattle.query_merge.proofs.Sorted.{comes_before, in_order_by}
use Rattle.query_merge.proofs.asking.sorted.Goals as goal

pub returns : goal.returns
returns c =
    let order = ranks_by record_total (λ (r : Rec). r) in
    in_order_by c.args.records.items c.sort_by.new.self.items (c.sort_by.ensures.stable comes_before order (answers_always _ _ _ (λ f a r f' k. search rules)))
    (c.in_ok-sort_by.ensures.sorted comes_before order (answers_always _ _ _ (λ f a r f' k. search rules)))
