use Rattle.std.proofs.Common.{◌≡◌, ◌∙◌, sym, ap, subst, List, [], ◌∷◌, fold, drop}
use mathlib.Core.List.{IsPrefix}
use Rattle.board_journal.specs.declared.shown.Shown.{Shown}
use Rattle.board_journal.specs.Views.{IsSound, swapped}
use Rattle.board_journal.proofs.Steps.{grows}
use Rattle.board_journal.proofs.pen.show.Goals as goal

pub publish_as-next-requires : goal.publish_as-next-requires
publish_as-next-requires g c next is =
    let i = c.loop.invariant in
    let w = c.loop.pen in
    let swap = c.args.swap.value in
    let y : Shown = next in
    let same : y ≡ swapped c.args.pen.desk.shown.value swap = is ∙ ap (λ ops. fold swapped w.desk.shown.value ops) i.3 ∙ ap (λ (s : Shown). swapped s swap) i.2 in
    grows _ _ _ _ _ w.desk.shown.value y (subst (λ (z : Shown). IsSound g.N.BoardName.book g.N.BoardName.rules g.N.BoardName.base z) (sym same) c.requires.sound)
    (subst (λ (z : Shown). IsPrefix w.desk.shown.value.seen.log z.seen.log) (sym same) (subst (λ (z : Shown). IsPrefix z.seen.log (swapped c.args.pen.desk.shown.value swap).seen.log) (sym i.2) c.requires.grows))
