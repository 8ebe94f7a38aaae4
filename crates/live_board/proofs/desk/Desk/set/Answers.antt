use Rattle.live_board.proofs.Desks.{sound_stands, sound_state}
use Rattle.live_board.proofs.desk.Desk.set.Goals as goal

pub returns-clause-standing : goal.returns-clause-standing
returns-clause-standing g c = rw (c.published.ensures) (sound_stands g.N.BoardName.book g.N.BoardName.rules g.N.BoardName.base c.self.inside.pen.desk.shown.value c.self.invariant.0).0

pub returns-clause-over : goal.returns-clause-over
returns-clause-over g c = rw (c.published.ensures) (sound_state g.N.BoardName.book g.N.BoardName.rules g.N.BoardName.base c.self.inside.pen.desk.shown.value c.self.invariant.0)
