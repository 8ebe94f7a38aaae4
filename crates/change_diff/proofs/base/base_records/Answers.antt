use Rattle.std.proofs.Common.{◌≡◌, ◌+◌, ◌++◌, ◌∙◌, Some, ap, arith, subst, sym}
use Rattle.std.specs.List.{AllByRecursion, flat_map}
use Rattle.live_model.specs.CanonicalLines.{HasTexts}
use Rattle.live_model.specs.Closures.{entity_at}
use Rattle.live_model.specs.Records.{records}
use Rattle.change_diff.specs.Counts.{steps_for}
use Rattle.change_diff.proofs.Untagged.{all_found, steps_of_both}
use Rattle.change_diff.proofs.Wholes.{fit, one_more, sorted, whole}
use Rattle.change_diff.proofs.base.base_records.Goals as goal

pub returns-clause-records : goal.returns-clause-records
returns-clause-records g c =
    whole c.args.rules.now c.args.store.now.entities c.loop-entity.entity-iterator c.loop-entity.records.items c.in-None.ensures.steps.0 c.loop-entity.invariant.records

pub returns-clause-sorted : goal.returns-clause-sorted
returns-clause-sorted g c = sorted c.args.rules.now c.args.store.now.entities c.loop-entity.records.items (returns-clause-records g c)

pub returns-clause-fit : goal.returns-clause-fit
returns-clause-fit g c =
    fit c.args.rules.now c.args.store.now.entities c.loop-entity.records.items (returns-clause-records g c) c.as_slice-rules.ensures.rules
    (c.loop-entity.invariant.texts (subst (AllByRecursion HasTexts) (sym c.in-None.ensures.steps.0) tt))

pub loop-entity-init : goal.loop-entity-init
loop-entity-init g c =
    let store = c.args.store.now.entities in
    let all : store ≡ c.into_iter-entity-iterator.result = sym (c.into_iter-entity-iterator.ensures.into_iter_gives ∙ c.entities-entity-items.ensures.list) in
    record {
      records = (λ i. c.new-records.ensures.items i ++ flat_map (λ e. records c.args.rules.now store e.id) (sym all i));
      texts = subst (AllByRecursion HasTexts) (sym all);
      there = subst (AllByRecursion (λ e. entity_at store e.id ≡ Some e)) all (all_found store c.entities-entity-items.ensures.rising);
      counted = ap (λ es. c.args.steps.now + steps_for es) (sym all);
    }

pub loop-entity-preserved : goal.loop-entity-preserved
loop-entity-preserved g c = record {
  records =
      one_more c.args.rules.now c.args.store.now.entities c.now-look.result c.loop-entity.entity-iterator c.next.new.self c.in-Some.entity.now c.loop-entity.records.items c.put_object.new.records.items
      c.now-look.ensures c.in-Some.ensures.steps c.in_ok-put_object.ensures.records c.loop-entity.invariant.records;
  texts = λ rest. c.loop-entity.invariant.texts (subst (AllByRecursion HasTexts) (sym c.in-Some.ensures.steps) (c.are_texts.ensures, rest));
  there = (subst (AllByRecursion (λ e. entity_at c.args.store.now.entities e.id ≡ Some e)) c.in-Some.ensures.steps c.loop-entity.invariant.there).1;
  counted =
      let one = ap steps_for c.in-Some.ensures.steps in
      let both = steps_of_both c.in-Some.entity.now c.next.new.self in
      omega (arith, one, both, c.in_ok-put_object.ensures.counted, c.loop-entity.invariant.counted);
}
