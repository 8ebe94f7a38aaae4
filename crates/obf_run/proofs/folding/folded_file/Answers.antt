use Rattle.std.proofs.Common.{◌∙◌, ap, refl}
use Rattle.std.specs.Arc.{arc_value}
use Rattle.std.proofs.lemmas.Result.{err_from_is_err_and}
use Rattle.run_model.specs.Endings.{ending, misfit}
use Rattle.run_model.specs.Inputs.{misfit_of}
use Rattle.obf_run.proofs.Folds.{fold_refused, fold_short, fold_works, some_read}
use Rattle.obf_run.proofs.folding.folded_file.Goals as goal

pub fold-requires-clause-some : goal.fold-requires-clause-some
fold-requires-clause-some g c =
    some_read arc_value _ _ c.args.names.now c.in_ok-images.images.items c.deref.result.now c.in_ok-images.ensures.images c.requires.some c.deref.ensures.value

pub returns-in_err-folded-in-Ok-clause-ends : goal.returns-in_err-folded-in-Ok-clause-ends
returns-in_err-folded-in-Ok-clause-ends g c = λ output.
    let p = err_from_is_err_and c.from_residual-in_err-folded-in-Ok.result c.from_residual-in_err-folded-in-Ok.ensures.1 in
    rw (p.1, p.2) (fold_short _ _ c.args.period output c.args.names.now arc_value c.in_ok-images.images.items c.in_ok-images.ensures.images _ refl)

pub returns-in-Ok-clause-works : goal.returns-in-Ok-clause-works
returns-in-Ok-clause-works g c = λ output.
    fold_works _ _ c.args.period output c.args.names.now arc_value c.in_ok-images.images.items c.in_ok-images.ensures.images c.level.result c.in-Ok.image c.in_ok-folded-in-Ok.folded
    c.level.ensures.level (rw (← c.deref.ensures.value) c.in-Ok.ensures.image) c.in_ok-folded-in-Ok.ensures

pub returns-in-Err-Not-clause-ends : goal.returns-in-Err-Not-clause-ends
returns-in-Err-Not-clause-ends g c = λ output.
    fold_refused _ _ c.args.period output c.args.names.now arc_value c.in_ok-images.images.items c.in_ok-images.ensures.images c.level.result c.in-Err-Not.field-0 c.in-Err-Not.told
    (ending c.not_following.result) c.level.ensures.level c.in-Err-Not.field-0-is (rw (← c.deref.ensures.value) c.in-Err-Not.ensures.refused) (c.not_following.ensures ∙ ap (λ told. misfit (misfit_of c.args.names.now told)) c.in-Err-Not.told-is)

pub returns-clause-ends : goal.returns-clause-ends
returns-clause-ends g c = λ output.
    fold_short _ _ c.args.period output c.args.names.now arc_value c.in_ok-images.images.items c.in_ok-images.ensures.images _ refl
