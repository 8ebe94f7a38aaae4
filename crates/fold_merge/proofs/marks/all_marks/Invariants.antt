use Rattle.std.proofs.Common.{◌≡◌, ◌++◌, length}
use Rattle.std.specs.Prelude.{flat_map}
use Rattle.boxed_write.specs.Classes.{held}
use Rattle.fold_merge.specs.Folds.{overlays_of}
use Rattle.fold_merge.proofs.marks.all_marks.Given as goal

-- with those of the images that are left they are all marks
abbrev pub invariant-loop-rest : goal.invariant-loop-rest
invariant-loop-rest l = l.marks.items ++ flat_map (λ o. o.marks) (overlays_of (held l.rest)) ≡ flat_map (λ o. o.marks) (overlays_of (held l.images))

abbrev pub decreases-loop-rest : goal.decreases-loop-rest
decreases-loop-rest l = length l.rest
