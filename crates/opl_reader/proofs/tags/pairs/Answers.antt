use Rattle.std.proofs.Common.{◌≡◌, None, Some, length, ap, sym, ◌∙◌, rules, arith}
use Rattle.std.specs.Prelude.{is_some}
use Rattle.live_model.specs.FieldValues.{tag_of, pairs_of}
use Rattle.opl_reader.specs.Lists.{OnBadList}
use Rattle.opl_reader.proofs.ItemSteps.{none_in, bad_by, at_more, at_bad, at_end-formed, at_end-spelled}
use Rattle.opl_reader.proofs.tags.pairs.Goals as goal

pub returns-then-is_empty-clause-formed : goal.returns-then-is_empty-clause-formed
unfolding pairs_of
returns-then-is_empty-clause-formed c =
    let empty : length c.args.value.now ≡ 0 = grind arith in
    ap is_some (none_in tag_of c.args.value.now empty)

pub returns-then-is_empty-clause-pairs : goal.returns-then-is_empty-clause-pairs
unfolding pairs_of
returns-then-is_empty-clause-pairs c =
    let empty : length c.args.value.now ≡ 0 = grind arith in
    λ _. none_in tag_of c.args.value.now empty ∙ ap Some (sym c.new-pairs.ensures.items)

pub returns-in_err-add_tag-clause-bad : goal.returns-in_err-add_tag-clause-bad
unfolding pairs_of
returns-in_err-add_tag-clause-bad c =
    let none : OnBadList (pairs_of c.args.value.now ≡ None) c.in_err-add_tag.field-0.0 =
    bad_by c.in_err-add_tag.field-0.0 (at_bad tag_of c.args.value.now c.args.keep _ _ _ _ c.in-Some.ensures.items c.loop-item.invariant.at) c.in_err-add_tag.ensures.bad
    in
    search rules

pub returns-in_err-add_tag-2-clause-bad : goal.returns-in_err-add_tag-2-clause-bad
unfolding pairs_of
returns-in_err-add_tag-2-clause-bad c =
    let none : OnBadList (pairs_of c.args.value.now ≡ None) c.in_err-add_tag-2.field-0.0 =
    bad_by c.in_err-add_tag-2.field-0.0 (at_bad tag_of c.args.value.now c.args.keep _ _ _ _ c.in_default.ensures.items c.loop-item.invariant.at) c.in_err-add_tag-2.ensures.bad
    in
    search rules

pub returns-clause-formed : goal.returns-clause-formed
unfolding pairs_of
returns-clause-formed c =
    at_end-formed tag_of c.args.value.now c.args.keep c.add_tag-2.new.tags.items
    (at_more tag_of c.args.value.now c.args.keep _ _ _ _ _ c.in_default.ensures.items c.in_ok-add_tag-2.ensures.formed c.in_ok-add_tag-2.ensures.added c.loop-item.invariant.at)

pub returns-clause-pairs : goal.returns-clause-pairs
unfolding pairs_of
returns-clause-pairs c =
    at_end-spelled tag_of c.args.value.now c.args.keep c.add_tag-2.new.tags.items
    (at_more tag_of c.args.value.now c.args.keep _ _ _ _ _ c.in_default.ensures.items c.in_ok-add_tag-2.ensures.formed c.in_ok-add_tag-2.ensures.added c.loop-item.invariant.at)
