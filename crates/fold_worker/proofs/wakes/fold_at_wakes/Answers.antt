use Rattle.fold_worker.proofs.Working.{work_both}
use Rattle.fold_worker.proofs.wakes.fold_at_wakes.Goals as goal

pub returns-in_err-fold_all-clause-work : goal.returns-in_err-fold_all-clause-work
returns-in_err-fold_all-clause-work g c = work_both 0 0 _ _ _ _ _ _ c.loop.invariant.2 c.fold_all.ensures.work

pub loop-preserved : goal.loop-preserved
loop-preserved g c = (tt, tt, work_both 0 0 _ _ _ _ _ _ c.loop.invariant.2 c.fold_all.ensures.work)

pub returns-in_err-fold_all-2-clause-work : goal.returns-in_err-fold_all-2-clause-work
returns-in_err-fold_all-2-clause-work g c = work_both 0 0 _ _ _ _ _ _ c.loop.invariant.2 c.fold_all-2.ensures.work

pub returns-clause-work : goal.returns-clause-work
returns-clause-work g c = work_both 0 0 _ _ _ _ _ _ c.loop.invariant.2 c.fold_all-2.ensures.work

pub returns-clause-last : goal.returns-clause-last
returns-clause-last g c = work_both 0 1 _ _ _ _ _ _ c.loop.invariant.2 c.in_ok-fold_all-2.ensures.last
