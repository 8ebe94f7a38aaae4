use Rattle.std.proofs.Common.{◌≡◌, ◌+◌, ◌++◌, ◌∷◌, [], List, length, length-append, sym, ◌∙◌, ap, subst, arith}
use Rattle.overlay_set.specs.Swaps.{Swap}
use Rattle.published_set.specs.Ops.{swap_of}
use Rattle.board_journal.specs.Journals.{IsBoardJournal, MayCome}
use Rattle.board_journal.proofs.Laws.{journal_grows}
use Rattle.board_journal.proofs.history.Front.added.Goals as goal

pub invariant_of-result : goal.invariant_of-result
invariant_of-result g c =
    let e = c.in_ok-seen.ensures in
    let log = c.self.inside.seen.log in
    let is = e.1 ∙ ap (λ s. s.log ++ swap_of c.args.op.now ∷ []) c.again.ensures in
    let comes : MayCome g.N.BoardName.rules g.N.BoardName.base log (swap_of c.args.op.now) = rw c.self.view_is c.requires.comes in (
      omega (arith, c.self.invariant.0, ap length is, length-append log (swap_of c.args.op.now ∷ [])),
      e.0,
      subst (λ (l : List Swap). IsBoardJournal g.N.BoardName.rules g.N.BoardName.base l) (sym is) (journal_grows g.N.BoardName.rules g.N.BoardName.base log (swap_of c.args.op.now) c.self.invariant.2 comes),
    )
