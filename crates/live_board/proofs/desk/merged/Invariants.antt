use Rattle.std.proofs.Common.{◌≡◌, ◌+◌, sum_by}
use Rattle.live_board.proofs.desk.merged.Given as goal

abbrev pub invariant-loop-pass : goal.invariant-loop-pass
invariant-loop-pass g l =
    (l.all.parts + sum_by (λ p. p.parts) l.passes.items ≡ l.initial.all.parts + sum_by (λ p. p.parts) l.initial.passes.items)
    × (l.all.amount + sum_by (λ p. p.made) l.passes.items ≡ l.initial.all.amount + sum_by (λ p. p.made) l.initial.passes.items)

abbrev pub decreases-loop-pass : goal.decreases-loop-pass
decreases-loop-pass g l = goal.left-loop-pass g l
