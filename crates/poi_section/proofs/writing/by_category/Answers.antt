use Rattle.std.proofs.Common.{rules, ◌∙◌, ap, subst}
use Rattle.std.specs.Prelude.{filter}
use Rattle.std.specs.List.Sorted.{ties, IsPermutation}
use Rattle.std.proofs.lemmas.Cmp.{nat_list_cmp_total}
use Rattle.std.proofs.lemmas.List.MinMax.{ranks_by}
use Rattle.std.proofs.lemmas.List.Sorted.{answers_always}
use denote.Ref.{Bor}
use Rattle.live_model.specs.declared.records.PoiRec.{PoiRec}
use Rattle.poi_section.specs.Packed.{IsPlaced}
use Rattle.poi_section.proofs.Ordered.{all_held, comes_before, stable_packed, up_held}
use Rattle.poi_section.proofs.writing.by_category.Goals as goal

pub returns-clause-up : goal.returns-clause-up
returns-clause-up c =
    let order = ranks_by nat_list_cmp_total (λ (b : Bor PoiRec). b.now.category) in
    up_held c.sort_by.new.self.items (c.in_ok-sort_by.ensures.sorted comes_before order (answers_always _ _ _ (λ f a r f' k. search rules)))

pub returns-clause-placed : goal.returns-clause-placed
returns-clause-placed c =
    all_held IsPlaced c.args.records.now c.sort_by.new.self.items
    (subst (λ (xs : _). IsPermutation xs c.sort_by.new.self.items) c.in_ok-order.ensures.items c.sort_by.ensures.permutation) c.requires

pub returns-clause-same : goal.returns-clause-same
returns-clause-same c =
    let order = ranks_by nat_list_cmp_total (λ (b : Bor PoiRec). b.now.category) in
    let stable = c.sort_by.ensures.stable comes_before order (answers_always _ _ _ (λ f a r f' k. search rules)) in
    stable_packed c.args.records.now c.sort_by.new.self.items (λ x. stable x ∙ ap (filter (ties comes_before x)) c.in_ok-order.ensures.items)
