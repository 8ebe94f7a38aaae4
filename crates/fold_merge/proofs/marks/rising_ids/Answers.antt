use Rattle.std.proofs.Common.{◌≡◌, rules, ◌∙◌, ap}
use Rattle.std.specs.Prelude.{filter}
use Rattle.std.specs.List.{dedup}
use Rattle.std.specs.List.Sorted.{ties, IsSortedBy}
use Rattle.std.specs.Ordering.{nat_cmp, is_eq, is_lt}
use Rattle.std.proofs.lemmas.Cmp.{nat_cmp_total}
use Rattle.std.proofs.lemmas.Fn.{dedup_same}
use Rattle.std.proofs.lemmas.List.MinMax.{ranks_by}
use Rattle.std.proofs.lemmas.List.Sorted.{answers_always}
use Rattle.live_model.specs.Ids.{Id, ordinal}
use Rattle.ordered_lists.proofs.PutAll.{put_all-sorted}
use Rattle.fold_merge.proofs.marks.rising_ids.Goals as goal

pub returns : goal.returns
returns c =
    let before = λ (x y : Id). is_lt (nat_cmp (ordinal x) (ordinal y)) in
    let tied = λ (x y : Id). is_eq (nat_cmp (ordinal x) (ordinal y)) in
    let order = ranks_by nat_cmp_total ordinal in
    let sorted : IsSortedBy before c.sort_by.new.self.items = c.in_ok-sort_by.ensures.sorted before order (answers_always _ _ _ (λ f a r f' k. search rules)) in
    let stable = c.sort_by.ensures.stable before order (answers_always _ _ _ (λ f a r f' k. search rules)) in
    let kept : c.dedup_by.new.self.items ≡ dedup tied c.sort_by.new.self.items = dedup_same _ tied _ (λ x y b f' x' y' k. search rules) _ _ c.dedup_by.ensures.filtered in
    kept ∙ put_all-sorted nat_cmp ordinal nat_cmp_total c.args.ids.items c.sort_by.new.self.items (λ x. stable x ∙ ap (filter (ties before x)) c.reverse.ensures.items) sorted
