use Rattle.fold_worker.specs.Work.{IsWork}
use Rattle.fold_worker.proofs.folding.fold_all.Given as goal

abbrev pub invariant-loop : goal.invariant-loop
invariant-loop g l =
    (goal.iterator-loop g).can_next l.iterator' × (goal.iterator-loop g).is_finite l.iterator'
    × IsWork 0 (g.S.FoldSite.site l.initial.site) (g.S.FoldSite.site l.site) l.initial.report l.report
