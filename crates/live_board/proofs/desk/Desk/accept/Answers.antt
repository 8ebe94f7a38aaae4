use Rattle.std.proofs.Common.{◌≡◌, ◌≤◌, ◌+◌, ◌*◌, List, [], ◌∷◌, ◌++◌, IfOk, length, ap, subst, ◌∙◌}
use Rattle.std.specs.Arc.{arc_value}
use Rattle.live_model.specs.Maps.{published}
use Rattle.live_model.specs.Stores.{apply}
use Rattle.live_model.specs.Users.{touched}
use Rattle.overlay_set.specs.Sets.{Entry, lines_of}
use Rattle.overlay_set.specs.Swaps.{Swap}
use Rattle.set_events.specs.Kept.{entry_for}
use Rattle.board_journal.specs.Journals.{state_after}
use Rattle.live_board.specs.Events.{entry_swap}
use Rattle.live_board.proofs.Desks.{ok_of}
use Rattle.live_board.proofs.Events.{entry_comes, entry_has_room, room_history}
use Rattle.live_board.proofs.desk.Desk.accept.Goals as goal

pub add-requires-clause-comes : goal.add-requires-clause-comes
add-requires-clause-comes g c =
    rw (c.in-Ok.ensures)
    (entry_comes g.N.BoardName.rules g.N.BoardName.base c.args.self.now (entry_for c.args.stamp c.args.tag (arc_value c.args.lines.now)) c.is_sound.ensures.journal c.requires.good c.requires.wanted)

pub add-requires-clause-room : goal.add-requires-clause-room
add-requires-clause-room g c =
    rw (c.in-Ok.ensures)
    (entry_has_room g.N.BoardName.rules g.N.BoardName.base c.args.self.now (entry_for c.args.stamp c.args.tag (arc_value c.args.lines.now)) c.is_sound.ensures.journal c.requires.wanted c.is_sound.ensures.files)

pub returns-in-Ok-clause-done : goal.returns-in-Ok-clause-done
returns-in-Ok-clause-done g c =
    let entry : Entry = entry_for c.args.stamp c.args.tag (arc_value c.args.lines.now) in
    subst (λ (l : List Swap). IfOk c.add.result (λ x. c.add.new.self ≡ l ++ entry_swap g.N.BoardName.rules g.N.BoardName.base l entry ∷ [])) c.in-Ok.ensures (ok_of _ _ c.add.result c.add.ensures.done)

pub returns-in-Ok-clause-most : goal.returns-in-Ok-clause-most
returns-in-Ok-clause-most g c =
    subst (λ (h : List Entry). c.add.new.steps ≤ c.args.steps.now + 8 * length (touched (published (apply [] g.N.BoardName.base) (lines_of h)) (arc_value c.args.lines.now)))
    (ap (λ (l : List Swap). (state_after g.N.BoardName.rules g.N.BoardName.base l).history) c.in-Ok.ensures ∙ room_history g.N.BoardName.rules g.N.BoardName.base c.args.self.now) c.add.ensures.most
