use Rattle.live_board.proofs.Desks.{sound_stands, sound_state}
use Rattle.live_board.proofs.pass.plan_shown.Goals as goal

pub due_plan-found-requires : goal.due_plan-found-requires
due_plan-found-requires g c = (sound_stands g.N.BoardName.book g.N.BoardName.rules g.N.BoardName.base c.args.shown.now c.requires).0

pub returns-clause-standing : goal.returns-clause-standing
returns-clause-standing g c = rw (c.of.ensures) (sound_state g.N.BoardName.book g.N.BoardName.rules g.N.BoardName.base c.args.shown.now c.requires)
