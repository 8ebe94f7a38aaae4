use Rattle.board_journal.proofs.Laws.{next_sound}
use Rattle.board_journal.proofs.pen.shown_next.Goals as goal

pub show-requires-clause-sound : goal.show-requires-clause-sound
show-requires-clause-sound g c =
    let n = next_sound g.N.BoardName.book g.N.BoardName.rules g.N.BoardName.base c.args.pen.desk.shown.value c.args.change c.requires.sound c.requires.next in
    rw (c.pend-pen.ensures.shown, c.of-told.ensures) n.sound

pub show-requires-clause-grows : goal.show-requires-clause-grows
show-requires-clause-grows g c =
    let n = next_sound g.N.BoardName.book g.N.BoardName.rules g.N.BoardName.base c.args.pen.desk.shown.value c.args.change c.requires.sound c.requires.next in
    rw (c.pend-pen.ensures.shown, c.of-told.ensures) n.grows

pub returns-clause-sound : goal.returns-clause-sound
returns-clause-sound g c =
    let n = next_sound g.N.BoardName.book g.N.BoardName.rules g.N.BoardName.base c.args.pen.desk.shown.value c.args.change c.requires.sound c.requires.next in
    rw (c.show.ensures.shown, c.pend-pen.ensures.shown, c.of-told.ensures) n.sound

pub returns-clause-log : goal.returns-clause-log
returns-clause-log g c =
    let n = next_sound g.N.BoardName.book g.N.BoardName.rules g.N.BoardName.base c.args.pen.desk.shown.value c.args.change c.requires.sound c.requires.next in
    rw (c.show.ensures.shown, c.pend-pen.ensures.shown, c.of-told.ensures) n.log
