use Rattle.std.proofs.Common.{◌≡◌, List, Some, length, sym, ap, subst, ◌∙◌}
use Rattle.std.specs.Arc.{arc_value}
use mathlib.Core.List.{IsPrefix}
use Rattle.overlay_set.specs.Machines.{limits_of_a_board, refused}
use Rattle.overlay_set.specs.Swaps.{Swap}
use Rattle.overlay_set.proofs.Later.{prefix_chain}
use Rattle.published_set.specs.Sets.{PublishedSet}
use Rattle.set_events.specs.Causes.{refusal_for}
use Rattle.set_events.specs.Kept.{entry_for}
use Rattle.board_journal.specs.Journals.{state_after}
use Rattle.live_board.specs.Known.{Known}
use Rattle.live_board.proofs.Events.{published_grows}
use Rattle.live_board.proofs.desk.Desk.publish.Goals as goal

pub returns-in-Some-clause-refused : goal.returns-in-Some-clause-refused
returns-in-Some-clause-refused g c =
    let here = subst (λ (x : PublishedSet). Some (refusal_for (length x.state.history) c.in-Some.cause) ≡ refused limits_of_a_board g.N.BoardName.rules g.N.BoardName.base x.state c.args.stamp) c.set.ensures.set c.in-Some.ensures in
    c.refused_for.ensures.cause c.args.stamp (rw (c.receipt-in-Some.ensures) here)

pub returns-in-Ok-clause-told : goal.returns-in-Ok-clause-told
returns-in-Ok-clause-told g c =
    let seen : c.accept.new.pass.log ≡ c.args.pass.now.log = ap (λ (k : Known). k.log) c.in-Ok.ensures.pass in
    let up : IsPrefix c.args.pass.now.log c.receipt-in-Ok.result =
    rw (c.receipt-in-Ok.ensures, c.in-Ok.ensures.done)
    (prefix_chain c.args.pass.now.log c.args.self.now _ c.if-not-meets.ensures.0
    (published_grows g.N.BoardName.rules g.N.BoardName.base c.args.self.now (entry_for c.args.stamp c.args.tag (arc_value c.args.lines.now)))) in
    c.learn-in-Ok.ensures.longer (subst (λ (l : List Swap). IsPrefix l c.receipt-in-Ok.result) (sym seen) up) ∙ c.receipt-in-Ok.ensures ∙ sym c.receipt-in-Ok-2.ensures
