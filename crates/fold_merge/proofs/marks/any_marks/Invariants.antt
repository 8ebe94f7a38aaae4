use Rattle.std.proofs.Common.{◌≡◌, length}
use Rattle.std.specs.List.{list_any}
use Rattle.boxed_write.specs.Classes.{held}
use Rattle.live_model.specs.Maps.{is_mark}
use Rattle.fold_merge.specs.Folds.{overlays_of}
use Rattle.fold_merge.proofs.marks.any_marks.Given as goal

-- the images that are left decide
abbrev pub invariant-loop-rest : goal.invariant-loop-rest
invariant-loop-rest l = list_any (λ o. is_mark o l.id) (overlays_of (held l.rest)) ≡ list_any (λ o. is_mark o l.id) (overlays_of (held l.images))

abbrev pub decreases-loop-rest : goal.decreases-loop-rest
decreases-loop-rest l = length l.rest
