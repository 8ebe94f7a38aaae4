use Rattle.std.proofs.Common.{refl}
use Rattle.std.specs.Arc.{arc_value}
use Rattle.std.proofs.lemmas.Result.{err_from_is_err_and}
use Rattle.run_model.specs.Endings.{ending}
use Rattle.obf_run.proofs.Asks.{question_refused, question_short, question_steps, question_works}
use Rattle.obf_run.proofs.asking.question_answer.Goals as goal

pub returns-in_err-answer-in-Ok-clause-ends : goal.returns-in_err-answer-in-Ok-clause-ends
returns-in_err-answer-in-Ok-clause-ends g c =
    let p = err_from_is_err_and c.from_residual-in_err-answer-in-Ok.result c.from_residual-in_err-answer-in-Ok.ensures.1 in
    rw (p.1, p.2) (question_short _ _ c.args.query.now c.args.names.now arc_value c.in_ok-images.images.items c.in_ok-images.ensures.images _ refl)

pub returns-in_err-answer-in-Ok-clause-steps : goal.returns-in_err-answer-in-Ok-clause-steps
returns-in_err-answer-in-Ok-clause-steps g c =
    question_steps _ _ c.args.query.now c.args.names.now arc_value c.in_ok-images.images.items c.in_ok-images.ensures.images c.args.steps.now c.rows_answer.new.steps
    (rw (← c.deref-in-Ok.ensures.value) c.rows_answer.ensures.steps)

pub returns-in-Ok-clause-works : goal.returns-in-Ok-clause-works
returns-in-Ok-clause-works g c =
    question_works _ _ c.args.query.now c.args.names.now arc_value c.in_ok-images.images.items c.in_ok-images.ensures.images c.in_ok-answer-in-Ok.answer.items
    (rw (← c.deref.ensures.value) c.in-Ok.ensures) (rw (← c.deref-in-Ok.ensures.value) c.in_ok-answer-in-Ok.ensures.answer)

pub returns-in-Ok-clause-steps : goal.returns-in-Ok-clause-steps
returns-in-Ok-clause-steps g c =
    question_steps _ _ c.args.query.now c.args.names.now arc_value c.in_ok-images.images.items c.in_ok-images.ensures.images c.args.steps.now c.rows_answer.new.steps
    (rw (← c.deref-in-Ok.ensures.value) c.rows_answer.ensures.steps)

pub returns-clause-ends : goal.returns-clause-ends
returns-clause-ends g c =
    question_refused _ _ c.args.query.now c.args.names.now arc_value c.in_ok-images.images.items c.in_ok-images.ensures.images c.in-Err.told (ending c.not_following.result)
    (rw (← c.deref.ensures.value) c.in-Err.ensures) c.not_following.ensures
