use Rattle.fold_worker.proofs.Working.{work_committed, work_planned}
use Rattle.fold_worker.proofs.folding.fold_next.Goals as goal

pub returns-in_err-commit-in-Some-clause-work : goal.returns-in_err-commit-in-Some-clause-work
returns-in_err-commit-in-Some-clause-work g c =
    work_committed _ _ _ _ _ _ (work_planned _ _ _ c.in_ok-plan.ensures.moved c.in_ok-plan.ensures.counted) c.commit.ensures.done

pub returns-in_ok-commit-in-Some-clause-work : goal.returns-in_ok-commit-in-Some-clause-work
returns-in_ok-commit-in-Some-clause-work g c =
    work_committed _ _ _ _ _ _ (work_planned _ _ _ c.in_ok-plan.ensures.moved c.in_ok-plan.ensures.counted) c.commit.ensures.done
