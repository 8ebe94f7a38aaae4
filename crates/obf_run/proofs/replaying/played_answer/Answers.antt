use Rattle.std.proofs.Common.{map}
use Rattle.std.specs.Arc.{arc_value}
use Rattle.std.proofs.lemmas.Result.{err_from_is_err_and}
use Rattle.run_model.specs.Endings.{ending, name_bytes}
use Rattle.obf_run.proofs.Replays.{changes_count, changes_end, play_short, play_works}
use Rattle.obf_run.proofs.replaying.played_answer.Goals as goal

pub returns-in_err-changes-clause-ends : goal.returns-in_err-changes-clause-ends
returns-in_err-changes-clause-ends g c =
    let p = err_from_is_err_and c.from_residual-in_err-changes.result c.from_residual-in_err-changes.ensures.1 in
    rw (p.1, p.2) (changes_end _ _ _ _ _ (name_bytes c.args.rules) (name_bytes c.args.base) (name_bytes c.args.script) c.in_ok-rules.rules (arc_value c.in_ok-base.base) c.in_ok-steps.steps.items
    c.in_ok-rules.ensures.rules c.in_ok-base.ensures.lines c.in_ok-steps.ensures.steps (ending c.in_err-changes.field-0.0) (rw (← c.deref.ensures.value) c.in_err-changes.ensures.ends))

pub play_plain-requires-clause-count : goal.play_plain-requires-clause-count
play_plain-requires-clause-count g c =
    changes_count arc_value _ _ c.deref.result.now c.deref-2.result.now c.in_ok-steps.steps.items c.in_ok-changes.changes.items c.deref-3.result.now c.in_ok-changes.ensures.changes
    c.deref.ensures.value c.deref-2.ensures.value c.deref-3.ensures.value

pub returns-in_err-answer-clause-ends : goal.returns-in_err-answer-clause-ends
returns-in_err-answer-clause-ends g c =
    let p = err_from_is_err_and c.from_residual-in_err-answer.result c.from_residual-in_err-answer.ensures.1 in
    rw (p.1, p.2) (play_short _ _ _ _ _ (name_bytes c.args.rules) (name_bytes c.args.base) (name_bytes c.args.script) c.in_ok-rules.rules (arc_value c.in_ok-base.base) c.in_ok-steps.steps.items
    c.in_ok-rules.ensures.rules c.in_ok-base.ensures.lines c.in_ok-steps.ensures.steps (map arc_value c.in_ok-changes.changes.items)
    (rw (← c.deref.ensures.value) c.in_ok-changes.ensures.changes))

pub returns-clause-works : goal.returns-clause-works
returns-clause-works g c =
    play_works _ _ _ _ _ (name_bytes c.args.rules) (name_bytes c.args.base) (name_bytes c.args.script) c.in_ok-rules.rules (arc_value c.in_ok-base.base) c.in_ok-steps.steps.items
    c.in_ok-rules.ensures.rules c.in_ok-base.ensures.lines c.in_ok-steps.ensures.steps arc_value c.in_ok-changes.changes.items c.deref-3.result.now c.deref-2.result.now c.in_ok-answer.answer.items
    (rw (← c.deref.ensures.value) c.in_ok-changes.ensures.changes) c.deref-2.ensures.value c.deref-3.ensures.value c.in_ok-answer.ensures
