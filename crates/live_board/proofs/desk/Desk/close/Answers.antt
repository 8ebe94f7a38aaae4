use Rattle.std.proofs.Common.{subst}
use Rattle.std.specs.List.{AllByRecursion}
use mathlib.Core.List.{IsPrefix}
use Rattle.live_board.proofs.Desks.{sound_stands}
use Rattle.live_board.proofs.desk.Desk.close.Goals as goal

pub returns-then-all_met-clause-standing : goal.returns-then-all_met-clause-standing
returns-then-all_met-clause-standing g c =
    rw (c.into_inner-set.ensures, c.take.ensures) (sound_stands g.N.BoardName.book g.N.BoardName.rules g.N.BoardName.base c.self.inside.pen.desk.shown.value c.self.invariant.0).0

pub returns-then-all_met-clause-seen : goal.returns-then-all_met-clause-seen
returns-then-all_met-clause-seen g c = subst (AllByRecursion (λ p. IsPrefix p.log c.args.self)) c.as_slice.ensures.value c.if-all_met.ensures
