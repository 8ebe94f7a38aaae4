use Rattle.std.proofs.Common.{◌≡◌, rules, ◌∙◌, ap}
use Rattle.std.specs.Prelude.{filter}
use Rattle.std.specs.List.{dedup}
use Rattle.std.specs.List.Sorted.{ties, IsSortedBy}
use Rattle.std.specs.Ordering.{is_eq, is_lt}
use Rattle.std.proofs.lemmas.Fn.{dedup_same}
use Rattle.std.proofs.lemmas.List.MinMax.{ranks_by}
use Rattle.std.proofs.lemmas.List.Sorted.{answers_always}
use Rattle.ordered_lists.proofs.PutAll.{put_all-sorted}
use Rattle.layer_table.specs.Layers.{key_of}
use Rattle.layer_table.proofs.layer.in_order.Goals as goal

pub returns : goal.returns
returns g c =
    let before = λ (x y : g.row.K.Denot × g.row.W.Denot). is_lt (g.K.Ord.cmp x.0 y.0) in
    let tied = λ (x y : g.row.K.Denot × g.row.W.Denot). is_eq (g.K.Ord.cmp x.0 y.0) in
    let order = ranks_by g.met.K.Ord.total (λ (x : g.row.K.Denot × g.row.W.Denot). x.0) in
    let sorted : IsSortedBy before c.sort_by.new.self.items = c.in_ok-sort_by.ensures.sorted before order (answers_always _ _ _ (λ f a r f' k. search rules)) in
    let stable = c.sort_by.ensures.stable before order (answers_always _ _ _ (λ f a r f' k. search rules)) in
    let kept : c.dedup_by.new.self.items ≡ dedup tied c.sort_by.new.self.items = dedup_same _ tied _ (λ x y b f' x' y' k. search rules) _ _ c.dedup_by.ensures.filtered in
    kept ∙ put_all-sorted g.K.Ord.cmp key_of g.met.K.Ord.total c.args.changes.items c.sort_by.new.self.items (λ x. stable x ∙ ap (filter (ties before x)) c.reverse.ensures.items) sorted
