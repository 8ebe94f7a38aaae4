use Rattle.std.proofs.Common.{refl}
use Rattle.run_model.specs.Endings.{name_bytes}
use Rattle.obf_run.proofs.Outcomes.{nodes_work}
use Rattle.obf_run.proofs.jobs.nodes_answer.Goals as goal

pub returns-clause-works : goal.returns-clause-works
returns-clause-works g c =
    nodes_work _ _ c.args.rect (name_bytes c.args.base) c.in_ok-store.store.entities c.in_ok-store.store.entities c.in_ok-answer.answer.items c.in_ok-store.ensures.store refl c.in_ok-answer.ensures
