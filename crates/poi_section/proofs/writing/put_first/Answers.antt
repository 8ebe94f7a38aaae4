use Rattle.std.proofs.Common.{◌++◌, ℕ, List, drop, refl, ap, sym, subst, ◌∙◌}
use Rattle.std.specs.List.{AllByRecursion}
use denote.Ref.{Bor}
use Rattle.live_model.specs.declared.records.PoiRec.{PoiRec}
use Rattle.boxed_write.specs.Classes.{held}
use Rattle.boxed_write.proofs.Sorting.{AreUp}
use Rattle.poi_section.specs.Packed.{IsPlaced, category_cmp, group, run_of}
use Rattle.poi_section.proofs.Groups.{up_behind}
use Rattle.poi_section.proofs.Ordered.{all_drop, all_take, first_put, first_some, held_drop, held_take}
use Rattle.poi_section.proofs.writing.put_first.Goals as goal

pub put_group-requires : goal.put_group-requires
put_group-requires c =
    let xs : List (Bor PoiRec) = c.args.records.now in
    let count : ℕ = c.run_of-count.result in
    subst (λ (ys : List (Bor PoiRec)). AllByRecursion IsPlaced (held ys)) (sym c.front.ensures)
    (subst (AllByRecursion IsPlaced) (sym (held_take count xs)) (all_take IsPlaced count (held xs) c.requires.placed))

pub returns-clause-put : goal.returns-clause-put
returns-clause-put c =
    let xs : List (Bor PoiRec) = c.args.records.now in
    let first : Bor PoiRec = c.index-records-0.result in
    let count : ℕ = c.run_of-count.result in
    let category = c.as_bytes-category.ensures in
    first_put xs first count c.args.out.now c.put_group.new.out c.front.result.now (drop count xs) c.requires.some c.index-records-0.is
    (c.run_of-count.ensures.count ∙ ap (λ (t : List ℕ). run_of t (held xs)) category) c.front.ensures refl c.requires.up
    (c.in_ok-put_group.ensures ∙ ap (λ (t : List ℕ). c.args.out.now ++ group t (held c.front.result.now)) category)

pub returns-clause-up : goal.returns-clause-up
returns-clause-up c =
    let xs : List (Bor PoiRec) = c.args.records.now in
    let count : ℕ = c.run_of-count.result in
    subst (AreUp category_cmp) (sym (held_drop count xs)) (up_behind count (held xs) c.requires.up)

pub returns-clause-placed : goal.returns-clause-placed
returns-clause-placed c =
    let xs : List (Bor PoiRec) = c.args.records.now in
    let count : ℕ = c.run_of-count.result in
    subst (AllByRecursion IsPlaced) (sym (held_drop count xs)) (all_drop IsPlaced count (held xs) c.requires.placed)

pub returns-clause-some : goal.returns-clause-some
returns-clause-some c =
    let xs : List (Bor PoiRec) = c.args.records.now in (
      first_some xs c.index-records-0.result c.run_of-count.result c.requires.some c.index-records-0.is
          (c.run_of-count.ensures.count ∙ ap (λ (t : List ℕ). run_of t (held xs)) c.as_bytes-category.ensures),
      c.run_of-count.ensures.within,
    )
