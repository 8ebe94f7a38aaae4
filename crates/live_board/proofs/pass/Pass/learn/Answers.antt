use Rattle.std.proofs.Common.{◌≡◌}
use mathlib.Core.List.{IsPrefix}
use Rattle.board_journal.proofs.Fronts.{prefix_both}
use Rattle.live_board.proofs.pass.Pass.learn.Goals as goal

pub returns-else-begins-clause-longer : goal.returns-else-begins-clause-longer
returns-else-begins-clause-longer g c =
    let shorter : IsPrefix c.args.receipt c.args.self.now.log = rw (← c.self.view_is, ← c.into_journal-front.ensures) c.if-begins.ensures.prefix in
    λ p. prefix_both c.args.self.now.log c.args.receipt p shorter
