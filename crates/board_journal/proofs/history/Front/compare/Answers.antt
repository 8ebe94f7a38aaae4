use Rattle.std.proofs.Common.{List, ap, subst}
use mathlib.Core.List.{IsPrefix}
use Rattle.overlay_set.specs.Swaps.{Swap}
use Rattle.board_journal.proofs.Fronts.{prefix_shorter}
use Rattle.board_journal.proofs.Laws.{prefix_later}
use Rattle.board_journal.proofs.history.Front.compare.Goals as goal

pub returns-clause-this : goal.returns-clause-this
returns-clause-this g c =
    let both = c.learn.new.self.log in
    let this : IsPrefix c.self.inside.seen.log both = subst (λ (l : List Swap). IsPrefix l both) (ap (λ s. s.log) c.again-both.ensures) c.learn.ensures.2 in
    rw (← c.self.view_is, ← c.other.view_is) (prefix_shorter c.self.inside.seen.log c.other.inside.seen.log both this c.learn.ensures.3)

pub returns-clause-that : goal.returns-clause-that
returns-clause-that g c =
    let both = c.learn.new.self.log in
    let this : IsPrefix c.self.inside.seen.log both = subst (λ (l : List Swap). IsPrefix l both) (ap (λ s. s.log) c.again-both.ensures) c.learn.ensures.2 in
    rw (← c.self.view_is, ← c.other.view_is) (prefix_shorter c.other.inside.seen.log c.self.inside.seen.log both c.learn.ensures.3 this)

pub returns-clause-later : goal.returns-clause-later
returns-clause-later g c =
    let both = c.learn.new.self.log in
    let this : IsPrefix c.self.inside.seen.log both = subst (λ (l : List Swap). IsPrefix l both) (ap (λ s. s.log) c.again-both.ensures) c.learn.ensures.2 in
    rw (← c.self.view_is, ← c.other.view_is) (λ le. prefix_later g.N.BoardName.rules g.N.BoardName.base _ _ (prefix_shorter c.self.inside.seen.log c.other.inside.seen.log both this c.learn.ensures.3 le))

pub returns-clause-earlier : goal.returns-clause-earlier
returns-clause-earlier g c =
    let both = c.learn.new.self.log in
    let this : IsPrefix c.self.inside.seen.log both = subst (λ (l : List Swap). IsPrefix l both) (ap (λ s. s.log) c.again-both.ensures) c.learn.ensures.2 in
    rw (← c.self.view_is, ← c.other.view_is) (λ le. prefix_later g.N.BoardName.rules g.N.BoardName.base _ _ (prefix_shorter c.other.inside.seen.log c.self.inside.seen.log both c.learn.ensures.3 this le))
