use Rattle.std.proofs.Common.{◌≡◌, ℕ, rules, ◌∙◌, ap}
use Rattle.std.specs.Prelude.{filter}
use Rattle.std.specs.List.{dedup}
use Rattle.std.specs.List.Sorted.{ties, IsSortedBy}
use Rattle.std.specs.Ordering.{nat_cmp, is_eq, is_lt}
use Rattle.std.proofs.lemmas.Cmp.{nat_cmp_total}
use Rattle.std.proofs.lemmas.Fn.{dedup_same}
use Rattle.std.proofs.lemmas.List.MinMax.{ranks_by}
use Rattle.std.proofs.lemmas.List.Sorted.{answers_always}
use Rattle.ordered_lists.proofs.PutAll.{put_all-sorted}
use Rattle.ref_index.proofs.sorting.rising.Goals as goal

pub returns : goal.returns
returns c =
    let before = λ (x y : ℕ). is_lt (nat_cmp x y) in
    let tied = λ (x y : ℕ). is_eq (nat_cmp x y) in
    let order = ranks_by nat_cmp_total (λ (x : ℕ). x) in
    let sorted : IsSortedBy before c.sort_by.new.self.items = c.in_ok-sort_by.ensures.sorted before order (answers_always _ _ _ (λ f a r f' k. search rules)) in
    let stable = c.sort_by.ensures.stable before order (answers_always _ _ _ (λ f a r f' k. search rules)) in
    let kept : c.dedup_by.new.self.items ≡ dedup tied c.sort_by.new.self.items = dedup_same _ tied _ (λ x y b f' x' y' k. search rules) _ _ c.dedup_by.ensures.filtered in
    kept ∙ put_all-sorted nat_cmp (λ n. n) nat_cmp_total c.args.numbers.items c.sort_by.new.self.items (λ x. stable x ∙ ap (filter (ties before x)) c.reverse.ensures.items) sorted
