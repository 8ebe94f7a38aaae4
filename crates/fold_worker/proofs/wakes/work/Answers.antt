use Rattle.fold_worker.proofs.Working.{work_reported}
use Rattle.fold_worker.proofs.wakes.work.Goals as goal

pub returns-clause-counted : goal.returns-clause-counted
returns-clause-counted g c = work_reported _ _ _ c.in_ok-fold_at_wakes.ensures.last
