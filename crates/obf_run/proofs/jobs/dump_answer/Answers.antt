use Rattle.std.proofs.Common.{refl}
use Rattle.run_model.specs.Endings.{name_bytes}
use Rattle.obf_run.proofs.Outcomes.{dump_works}
use Rattle.obf_run.proofs.jobs.dump_answer.Goals as goal

pub returns-clause-works : goal.returns-clause-works
returns-clause-works g c =
    dump_works _ _ (name_bytes c.args.base) c.in_ok-store.store.entities c.in_ok-store.store.entities c.in_ok-answer.answer.items c.in_ok-store.ensures.store refl c.in_ok-answer.ensures
