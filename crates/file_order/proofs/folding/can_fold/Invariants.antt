use Rattle.std.proofs.Common.{length}
use Rattle.file_order.proofs.Parts.{AreLeft}
use Rattle.file_order.proofs.folding.can_fold.Given as goal

-- the files that are left are still to be asked
abbrev pub invariant-loop-file : goal.invariant-loop-file
invariant-loop-file g l = AreLeft l.level (λ f. record { head = g.F.Ordered.head_of f; rules = g.F.Ordered.rules_of f }) l.files l.rest l.first l.last

abbrev pub decreases-loop-file : goal.decreases-loop-file
decreases-loop-file g l = length l.rest
