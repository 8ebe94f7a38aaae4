use Rattle.std.proofs.Common.{◌≡◌, IfOk, List, subst}
use Rattle.live_model.specs.declared.rows.Row.{Row}
use Rattle.live_board.proofs.Asking.{sound_answers, sound_over}
use Rattle.live_board.proofs.Desks.{sound_state}
use Rattle.live_board.proofs.pass.ask_shown.Goals as goal

pub ask_set-found-requires : goal.ask_set-found-requires
ask_set-found-requires g c = sound_over g.N.BoardName.book g.N.BoardName.rules g.N.BoardName.base c.args.shown.now c.requires

pub returns-clause-rows : goal.returns-clause-rows
returns-clause-rows g c =
    rw (c.of.ensures)
    (subst (λ (a : List Row). IfOk c.ask_set-found.result (λ rows. rows.items ≡ a)) (sound_answers g.N.BoardName.book g.N.BoardName.rules g.N.BoardName.base c.args.shown.now c.requires c.args.query.now)
    c.ask_set-found.ensures.rows)

pub returns-clause-standing : goal.returns-clause-standing
returns-clause-standing g c = rw (c.of.ensures) (sound_state g.N.BoardName.book g.N.BoardName.rules g.N.BoardName.base c.args.shown.now c.requires)
