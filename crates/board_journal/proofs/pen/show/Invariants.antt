use Rattle.std.proofs.Common.{◌≡◌, [], ◌∷◌, drop}
use Rattle.board_journal.proofs.pen.show.Given as goal

abbrev pub invariant-loop : goal.invariant-loop
invariant-loop g l =
    (goal.iterator-loop g).can_next l.iterator' × (goal.iterator-loop g).is_finite l.iterator'
    × (l.pen.desk.shown.value ≡ l.initial.pen.desk.shown.value) × (drop l.pen.behind l.pen.log.items ≡ l.swap.value ∷ [])
