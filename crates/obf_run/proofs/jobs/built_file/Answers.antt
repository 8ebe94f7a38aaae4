use Rattle.run_model.specs.Endings.{name_bytes}
use Rattle.obf_run.specs.Finishing.{outcome_of}
use Rattle.obf_run.proofs.Outcomes.{build_works}
use Rattle.obf_run.proofs.jobs.built_file.Goals as goal

pub returns-clause-works : goal.returns-clause-works
returns-clause-works g c output =
    build_works _ _ _ (name_bytes c.args.rules) (name_bytes c.args.base) output c.in_ok-rules.rules c.in_ok-store.store.entities (outcome_of c.in_ok-built.built)
    c.in_ok-rules.ensures.rules c.in_ok-store.ensures.store c.in_ok-built.ensures
