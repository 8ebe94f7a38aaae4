use Rattle.std.proofs.Common.{◌∙◌, ◌++◌, ◌∷◌, [], ap, append_assoc, map, refl, subst, sym}
use Rattle.std.specs.Arc.{arc_value}
use Rattle.std.proofs.lemmas.Result.{err_from_is_err_and}
use Rattle.run_model.specs.Endings.{ending}
use Rattle.obf_run.specs.Replaying.{AreChanges}
use Rattle.obf_run.proofs.Replays.{ends_at_step, none_read, one_step_more}
use Rattle.obf_run.proofs.replaying.read_changes.Goals as goal

pub loop-step-init : goal.loop-step-init
loop-step-init g c = (
  [],
  refl,
  subst (λ changes. AreChanges (g.F.Files.state c.args.files.now) (g.F.Files.state c.args.files.now) [] (map arc_value changes)) (sym c.new-changes.ensures.items)
      (none_read (g.F.Files.state c.args.files.now)),
)

pub loop-step-preserved : goal.loop-step-preserved
loop-step-preserved g c =
    let so_far = c.loop-step.invariant.0 in
    let step = c.in-Some.step.now in
    let others = c.in-Some.others.now in
    let first = c.in-Some.ensures.cases.0 in (
      so_far ++ step ∷ [],
      c.loop-step.invariant.1 ∙ ap (λ ss. so_far ++ ss) first ∙ sym (append_assoc so_far (step ∷ []) others),
      one_step_more _ _ _ so_far step (map arc_value c.loop-step.changes.items) (map arc_value c.read_next.new.changes.items) c.loop-step.invariant.2 c.in_ok-read_next.ensures.read,
    )

pub returns-in_err-read_next-clause-ends : goal.returns-in_err-read_next-clause-ends
returns-in_err-read_next-clause-ends g c =
    let so_far = c.loop-step.invariant.0 in
    let p = err_from_is_err_and c.from_residual.result c.from_residual.ensures.1 in
    rw (p.1, p.2) (ends_at_step _ _ _ so_far c.args.steps.now c.in-Some.step.now c.in-Some.others.now (map arc_value c.loop-step.changes.items) (ending c.in_err-read_next.field-0.0)
    c.loop-step.invariant.2 (c.loop-step.invariant.1 ∙ ap (λ ss. so_far ++ ss) c.in-Some.ensures.cases.0) c.in_err-read_next.ensures.ends)
