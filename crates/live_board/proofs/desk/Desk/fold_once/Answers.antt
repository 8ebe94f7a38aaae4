use Rattle.std.proofs.Common.{◌≡◌, [], ◌∷◌, length, length-append, sym, ap, subst, arith}
use Rattle.overlay_set.specs.Periods.{foldable}
use Rattle.overlay_set.specs.Swaps.{FoldPlan}
use Rattle.board_journal.specs.Journals.{MayCome}
use Rattle.live_board.specs.Events.{fold_swap}
use Rattle.live_board.proofs.Desks.{due_comes}
use Rattle.live_board.proofs.desk.Desk.fold_once.Goals as goal

pub place_fold-requires : goal.place_fold-requires
place_fold-requires g c =
    subst (λ (p : FoldPlan). MayCome g.N.BoardName.rules g.N.BoardName.base c.args.self.now (fold_swap p)) (sym c.finish.ensures)
    (due_comes g.N.BoardName.rules g.N.BoardName.base c.args.self.now c.set.result.now c.in_ok-due_plan.field-0 (foldable c.set.result.now.state) c.in-Some.plan c.set.ensures.set c.in_ok-due_plan.ensures.plan
    c.in_ok-due_plan.ensures.fits c.in-Some.is)

pub returns-in-Ok-clause-left : goal.returns-in-Ok-clause-left
returns-in-Ok-clause-left g c = (omega (arith, ap length c.in-Ok.ensures, length-append c.args.self.now (fold_swap c.finish.result ∷ [])), c.is_sound.ensures.swaps)
