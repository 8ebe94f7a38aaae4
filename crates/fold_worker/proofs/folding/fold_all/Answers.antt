use Rattle.std.proofs.Common.{rules}
use Rattle.fold_worker.specs.Work.{IsWork}
use Rattle.fold_worker.proofs.Working.{work_both}
use Rattle.fold_worker.proofs.folding.fold_all.Goals as goal

pub returns-in_err-fold_next-clause-work : goal.returns-in_err-fold_next-clause-work
returns-in_err-fold_next-clause-work g c = work_both 0 0 _ _ _ _ _ _ c.loop.invariant.2 c.fold_next.ensures.work

pub returns-then-not-branch-clause-work : goal.returns-then-not-branch-clause-work
returns-then-not-branch-clause-work g c = work_both 0 0 _ _ _ _ _ _ c.loop.invariant.2 c.fold_next.ensures.work

pub returns-then-not-branch-clause-last : goal.returns-then-not-branch-clause-last
returns-then-not-branch-clause-last g c =
    let last : IsWork 1 (g.S.FoldSite.site c.loop.site) (g.S.FoldSite.site c.fold_next.new.site) c.loop.report c.fold_next.new.report = search rules in
    work_both 0 1 _ _ _ _ _ _ c.loop.invariant.2 last

pub loop-preserved : goal.loop-preserved
loop-preserved g c = (tt, tt, work_both 0 0 _ _ _ _ _ _ c.loop.invariant.2 c.fold_next.ensures.work)
