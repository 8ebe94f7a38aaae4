use Rattle.std.proofs.Common.{◌≡◌, length, None}
use Rattle.boxed_write.specs.Classes.{held}
use Rattle.fold_merge.specs.Folds.{last_hour}
use Rattle.fold_merge.proofs.heads.last_hour.Given as goal

-- the last hour of the images that are left, or else this one
abbrev pub invariant-loop-rest : goal.invariant-loop-rest
invariant-loop-rest l = last_hour l.last (held l.rest) ≡ last_hour None (held l.images)

abbrev pub decreases-loop-rest : goal.decreases-loop-rest
decreases-loop-rest l = length l.rest
