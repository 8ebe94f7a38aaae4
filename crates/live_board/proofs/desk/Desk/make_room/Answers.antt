use Rattle.std.proofs.Common.{◌≡◌, List, MatchResult, sym, ap, subst}
use Rattle.overlay_set.specs.Machines.{is_full, limits_of_a_board}
use Rattle.overlay_set.specs.Periods.{shrinkable}
use Rattle.overlay_set.specs.Sets.{State}
use Rattle.overlay_set.specs.Swaps.{Swap}
use Rattle.published_set.specs.Sets.{IsStandingOver, PublishedSet}
use Rattle.board_journal.specs.Journals.{state_after}
use Rattle.live_board.proofs.Desks.{room_is}
use Rattle.live_board.proofs.Events.{room_comes, room_some}
use Rattle.live_board.proofs.desk.Desk.make_room.Goals as goal

pub place_fold-requires : goal.place_fold-requires
place_fold-requires g c =
    room_comes g.N.BoardName.rules g.N.BoardName.base c.args.self.now c.in-Some.work
    (subst (λ (s : State). IsStandingOver g.N.BoardName.rules g.N.BoardName.base s) (ap (λ (s : PublishedSet). s.state) c.set.ensures.set) c.set.ensures.over)
    (room_is g.N.BoardName.rules g.N.BoardName.base c.args.self.now c.set.result.now c.in-Some.work c.in_ok-room_for.field-0 c.set.ensures.set c.in_ok-room_for.ensures.work c.in-Some.is)

pub returns-in-Some : goal.returns-in-Some
returns-in-Some g c =
    let s : State = state_after g.N.BoardName.rules g.N.BoardName.base c.args.self.now in
    subst (λ (l : List Swap). MatchResult c.place_fold.result (λ x. c.place_fold.new.self ≡ l) (λ x. c.place_fold.new.self ≡ c.args.self.now))
    (sym (room_some g.N.BoardName.rules g.N.BoardName.base c.args.self.now (is_full limits_of_a_board g.N.BoardName.rules g.N.BoardName.base s) (shrinkable s) c.in-Some.work
    (room_is g.N.BoardName.rules g.N.BoardName.base c.args.self.now c.set.result.now c.in-Some.work c.in_ok-room_for.field-0 c.set.ensures.set c.in_ok-room_for.ensures.work c.in-Some.is)))
    c.place_fold.ensures
