use Rattle.std.proofs.Common.{◌≡◌, None, Some, length, ap, sym, ◌∙◌, rules, arith}
use Rattle.std.specs.Prelude.{is_some}
use Rattle.live_model.specs.FieldValues.{ref_of, refs_of, items_of, breaks_located}
use Rattle.opl_reader.specs.Lists.{OnBadRef}
use Rattle.opl_reader.proofs.ItemSteps.{none_in, at_more, at_end-formed, at_end-spelled}
use Rattle.opl_reader.proofs.RefSteps.{located_more, bad_ref_by_step, none_located}
use Rattle.opl_reader.proofs.refs.numbers.Goals as goal

pub returns-then-is_empty-clause-formed : goal.returns-then-is_empty-clause-formed
unfolding refs_of
returns-then-is_empty-clause-formed c =
    let empty : length c.args.value.now ≡ 0 = grind arith in
    ap is_some (none_in ref_of c.args.value.now empty)

pub returns-then-is_empty-clause-unlocated : goal.returns-then-is_empty-clause-unlocated
returns-then-is_empty-clause-unlocated c =
    let empty : length c.args.value.now ≡ 0 = grind arith in
    none_located c.args.value.now empty

pub returns-then-is_empty-clause-numbers : goal.returns-then-is_empty-clause-numbers
unfolding refs_of
returns-then-is_empty-clause-numbers c =
    let empty : length c.args.value.now ≡ 0 = grind arith in
    λ _. none_in ref_of c.args.value.now empty ∙ ap Some (sym c.new-numbers.ensures.items)

pub returns-in_err-add_ref-clause-bad : goal.returns-in_err-add_ref-clause-bad
unfolding refs_of
returns-in_err-add_ref-clause-bad c =
    let none : OnBadRef (refs_of c.args.value.now ≡ None) (breaks_located (items_of c.args.value.now)) c.in_err-add_ref.field-0.0 =
    bad_ref_by_step c.in_err-add_ref.field-0.0 c.args.value.now c.args.keep _ _ _ _ c.in-Some.ensures.items c.loop-item.invariant.at c.loop-item.invariant.located c.in_err-add_ref.ensures.bad
    in
    search rules

pub returns-in_err-add_ref-2-clause-bad : goal.returns-in_err-add_ref-2-clause-bad
unfolding refs_of
returns-in_err-add_ref-2-clause-bad c =
    let none : OnBadRef (refs_of c.args.value.now ≡ None) (breaks_located (items_of c.args.value.now)) c.in_err-add_ref-2.field-0.0 =
    bad_ref_by_step c.in_err-add_ref-2.field-0.0 c.args.value.now c.args.keep _ _ _ _ c.in_default.ensures.items c.loop-item.invariant.at c.loop-item.invariant.located c.in_err-add_ref-2.ensures.bad
    in
    search rules

pub returns-clause-formed : goal.returns-clause-formed
unfolding refs_of
returns-clause-formed c =
    at_end-formed ref_of c.args.value.now c.args.keep c.add_ref-2.new.numbers.items
    (at_more ref_of c.args.value.now c.args.keep _ _ _ _ _ c.in_default.ensures.items c.in_ok-add_ref-2.ensures.formed c.in_ok-add_ref-2.ensures.added c.loop-item.invariant.at)

pub returns-clause-unlocated : goal.returns-clause-unlocated
returns-clause-unlocated c = sym c.loop-item.invariant.located ∙ located_more _ _ _ c.in_default.ensures.items c.in_ok-add_ref-2.ensures.formed

pub returns-clause-numbers : goal.returns-clause-numbers
unfolding refs_of
returns-clause-numbers c =
    at_end-spelled ref_of c.args.value.now c.args.keep c.add_ref-2.new.numbers.items
    (at_more ref_of c.args.value.now c.args.keep _ _ _ _ _ c.in_default.ensures.items c.in_ok-add_ref-2.ensures.formed c.in_ok-add_ref-2.ensures.added c.loop-item.invariant.at)
