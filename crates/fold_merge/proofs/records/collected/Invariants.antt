use Rattle.std.proofs.Common.{◌≡◌, ◌++◌, length}
use Rattle.boxed_write.specs.Classes.{held}
use Rattle.fold_merge.specs.Collecting.{collected}
use Rattle.fold_merge.proofs.records.collected.Given as goal

-- with those of the images that are left they are all
abbrev pub invariant-loop-rest : goal.invariant-loop-rest
invariant-loop-rest g l = l.records.items ++ collected (held l.rest) ≡ collected (held l.images)

abbrev pub decreases-loop-rest : goal.decreases-loop-rest
decreases-loop-rest g l = length l.rest
