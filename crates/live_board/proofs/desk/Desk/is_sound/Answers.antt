use Rattle.std.proofs.Common.{◌≤◌, length, List, subst, arith}
use Rattle.std.proofs.lemmas.List.{length-map}
use Rattle.overlay_set.specs.Sets.{Entry}
use Rattle.published_set.specs.Sets.{entry_of}
use Rattle.live_board.proofs.Desks.{desk_short}
use Rattle.live_board.proofs.desk.Desk.is_sound.Goals as goal

pub returns-clause-swaps : goal.returns-clause-swaps
returns-clause-swaps g c =
    let few : length c.published.result.now.set.state.history ≤ 65536 = subst (λ (h : List Entry). length h ≤ 65536) c.history.ensures.entries (let count = length-map c.history.result.now entry_of in omega (arith, count, c.history.ensures.most)) in
    rw (← c.self.view_is) (desk_short g.N.BoardName.book g.N.BoardName.rules g.N.BoardName.base c.self.inside.pen.desk.shown.value c.published.result.now c.self.inside.front c.self.invariant.0 c.self.invariant.1
    c.published.ensures few)
