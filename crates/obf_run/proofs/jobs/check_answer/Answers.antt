use Rattle.run_model.specs.Endings.{name_bytes}
use Rattle.obf_run.proofs.Outcomes.{check_works}
use Rattle.obf_run.proofs.jobs.check_answer.Goals as goal

pub returns-clause-works : goal.returns-clause-works
returns-clause-works g c =
    check_works _ _ (name_bytes c.args.file) c.in_ok-image.image.bytes c.in_ok-line.line.items c.in_ok-image.ensures.image c.in_ok-line.ensures
