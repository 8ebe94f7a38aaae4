use Rattle.std.proofs.Common.{◌≡◌, None, Some, length, ap, sym, ◌∙◌, rules, arith}
use Rattle.std.specs.Prelude.{is_some}
use Rattle.live_model.specs.FieldValues.{member_of, members_of}
use Rattle.opl_reader.specs.Lists.{OnBadList}
use Rattle.opl_reader.proofs.ItemSteps.{none_in, bad_by, at_more, at_bad, at_end-formed, at_end-spelled}
use Rattle.opl_reader.proofs.members.named.Goals as goal

pub returns-then-is_empty-clause-formed : goal.returns-then-is_empty-clause-formed
unfolding members_of
returns-then-is_empty-clause-formed c =
    let empty : length c.args.value.now ≡ 0 = grind arith in
    ap is_some (none_in member_of c.args.value.now empty)

pub returns-then-is_empty-clause-members : goal.returns-then-is_empty-clause-members
unfolding members_of
returns-then-is_empty-clause-members c =
    let empty : length c.args.value.now ≡ 0 = grind arith in
    λ _. none_in member_of c.args.value.now empty ∙ ap Some (sym c.new-members.ensures.items)

pub returns-in_err-add_member-clause-bad : goal.returns-in_err-add_member-clause-bad
unfolding members_of
returns-in_err-add_member-clause-bad c =
    let none : OnBadList (members_of c.args.value.now ≡ None) c.in_err-add_member.field-0.0 =
    bad_by c.in_err-add_member.field-0.0 (at_bad member_of c.args.value.now c.args.keep _ _ _ _ c.in-Some.ensures.items c.loop-item.invariant.at) c.in_err-add_member.ensures.bad
    in
    search rules

pub returns-in_err-add_member-2-clause-bad : goal.returns-in_err-add_member-2-clause-bad
unfolding members_of
returns-in_err-add_member-2-clause-bad c =
    let none : OnBadList (members_of c.args.value.now ≡ None) c.in_err-add_member-2.field-0.0 =
    bad_by c.in_err-add_member-2.field-0.0 (at_bad member_of c.args.value.now c.args.keep _ _ _ _ c.in_default.ensures.items c.loop-item.invariant.at) c.in_err-add_member-2.ensures.bad
    in
    search rules

pub returns-clause-formed : goal.returns-clause-formed
unfolding members_of
returns-clause-formed c =
    at_end-formed member_of c.args.value.now c.args.keep c.add_member-2.new.members.items
    (at_more member_of c.args.value.now c.args.keep _ _ _ _ _ c.in_default.ensures.items c.in_ok-add_member-2.ensures.formed c.in_ok-add_member-2.ensures.added c.loop-item.invariant.at)

pub returns-clause-members : goal.returns-clause-members
unfolding members_of
returns-clause-members c =
    at_end-spelled member_of c.args.value.now c.args.keep c.add_member-2.new.members.items
    (at_more member_of c.args.value.now c.args.keep _ _ _ _ _ c.in_default.ensures.items c.in_ok-add_member-2.ensures.formed c.in_ok-add_member-2.ensures.added c.loop-item.invariant.at)
