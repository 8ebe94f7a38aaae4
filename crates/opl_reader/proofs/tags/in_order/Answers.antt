use Rattle.std.proofs.Common.{◌≡◌, rules, ◌∙◌, ap}
use Rattle.std.specs.Prelude.{filter}
use Rattle.std.specs.List.{dedup}
use Rattle.std.specs.List.Sorted.{ties, IsSortedBy}
use Rattle.std.proofs.lemmas.Cmp.{nat_list_cmp_total}
use Rattle.std.proofs.lemmas.Fn.{dedup_same}
use Rattle.std.proofs.lemmas.List.MinMax.{ranks_by}
use Rattle.std.proofs.lemmas.List.Sorted.{answers_always}
use Rattle.live_model.specs.declared.objects.Tag.{Tag}
use Rattle.opl_reader.proofs.TagSteps.{comes_before, has_same_key, tags_from_sorted}
use Rattle.opl_reader.proofs.tags.in_order.Goals as goal

pub returns : goal.returns
returns c =
    let order = ranks_by nat_list_cmp_total (λ (t : Tag). t.key) in
    let sorted : IsSortedBy comes_before c.sort_by.new.self.items = c.in_ok-sort_by.ensures.sorted comes_before order (answers_always _ _ _ (λ f a r f' k. search rules)) in
    let stable = c.sort_by.ensures.stable comes_before order (answers_always _ _ _ (λ f a r f' k. search rules)) in
    let kept : c.dedup_by.new.self.items ≡ dedup has_same_key c.sort_by.new.self.items = dedup_same _ has_same_key _ (λ x y b f' x' y' k. search rules) _ _ c.dedup_by.ensures.filtered in
    kept ∙ tags_from_sorted c.args.tags.items c.sort_by.new.self.items (λ x. stable x ∙ ap (filter (ties comes_before x)) c.reverse.ensures.items) sorted
