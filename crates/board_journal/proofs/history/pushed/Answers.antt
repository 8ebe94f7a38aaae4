use Rattle.std.proofs.Common.{◌≡◌, true, sym, ◌∙◌, ap}
use Rattle.published_set.specs.Ops.{swap_of}
use Rattle.board_journal.proofs.Adding.{adds_moves}
use Rattle.board_journal.proofs.history.pushed.Goals as goal

pub compare_exchange-found-requires : goal.compare_exchange-found-requires
compare_exchange-found-requires g c =
    let h = c.args.head.now.head_is in
    let offer = c.plain-offer.ensures in
    let pen = c.no_pen-pen.ensures in (
      ap (λ w. w.tracked) h,
      c.requires.book ∙ sym (ap (λ w. w.book) h),
      pen.0 ∙ (c.requires.book ∙ sym (ap (λ w. w.book) h)),
      offer.0,
      rw (ap (λ w. w.key) h, pen.1, offer.1, offer.3) (adds_moves c.args.seen.log (swap_of c.args.op.now) c.args.len (sym c.requires.length)),
    )
