use Rattle.std.proofs.Common.{◌∙◌, ◌++◌, ◌∷◌, [], ap, append_assoc, refl, sym}
use Rattle.std.proofs.lemmas.Result.{err_from_is_err_and}
use Rattle.run_model.specs.Endings.{ending}
use Rattle.obf_run.proofs.Changes.{ends_at_change, none_made, one_more_made}
use Rattle.obf_run.proofs.changing.make_changes.Goals as goal

pub loop-name-init : goal.loop-name-init
loop-name-init g c = ([], refl, none_made (g.F.Files.state c.args.files.now) c.args.store.now.entities c.requires.good)

pub loop-name-preserved : goal.loop-name-preserved
loop-name-preserved g c =
    let so_far = c.loop-name.invariant.0 in
    let name = c.in-Some.name.now in
    let others = c.in-Some.others.now in
    let first = c.in-Some.ensures.cases.0 in (
      so_far ++ name ∷ [],
      c.loop-name.invariant.1 ∙ ap (λ ns. so_far ++ ns) first ∙ sym (append_assoc so_far (name ∷ []) others),
      rw (← c.as_str.ensures) (one_more_made _ _ _ so_far c.as_str.result.now c.args.store.now.entities c.loop-name.store.entities c.make_change.new.store.entities c.loop-name.invariant.2
          c.in_ok-make_change.ensures.made c.in_ok-make_change.ensures.good),
    )

pub returns-in_err-make_change-clause-ends : goal.returns-in_err-make_change-clause-ends
returns-in_err-make_change-clause-ends g c = λ after.
    let so_far = c.loop-name.invariant.0 in
    let others = c.in-Some.others.now in
    let first = c.in-Some.ensures.cases.0 in
    let p = err_from_is_err_and c.from_residual.result c.from_residual.ensures.1 in
    rw (p.1, p.2) (ends_at_change _ _ _ so_far c.args.names.now after c.as_str.result.now others c.args.store.now.entities c.loop-name.store.entities (ending c.in_err-make_change.field-0.0)
    c.loop-name.invariant.2 (c.loop-name.invariant.1 ∙ ap (λ ns. so_far ++ ns) (first ∙ ap (λ n. n ∷ others) (sym c.as_str.ensures))) c.in_err-make_change.ensures.ends
    c.in_err-make_change.ensures.only_reads)
