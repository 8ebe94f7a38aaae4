use Rattle.std.proofs.Common.{List}
use Rattle.overlay_set.specs.Swaps.{Swap}
use Rattle.overlay_set.proofs.Settling.{settled_law}
use Rattle.board_journal.specs.Journals.{state_after}
use Rattle.board_journal.proofs.Laws.{journal_stands}
use Rattle.live_board.specs.Answers.{IsSettled}
use Rattle.live_board.proofs.desk.Desk.settle.Goals as goal

pub returns-in-Ok-clause-settled : goal.returns-in-Ok-clause-settled
returns-in-Ok-clause-settled g c =
    let now : List Swap = c.fold_all.new.self in
    let here : IsSettled g.N.BoardName.rules g.N.BoardName.base c.args.pass.now.log now = record {
      before = c.args.self.now;
      begins = c.if-not-meets.ensures.0;
      folds = c.in-Ok.ensures.folds;
      none = c.in-Ok.ensures.settled;
      shape_is = settled_law g.N.BoardName.rules g.N.BoardName.base (state_after g.N.BoardName.rules g.N.BoardName.base now)
          (journal_stands g.N.BoardName.rules g.N.BoardName.base now c.is_sound.ensures.journal).stands c.in-Ok.ensures.settled;
    } in
    rw (c.receipt-in-Ok.ensures) here
