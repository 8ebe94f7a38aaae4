use Rattle.std.proofs.Common.{length}
use Rattle.std.specs.List.{AllByRecursion}
use Rattle.boxed_write.specs.Classes.{held}
use Rattle.packed_image.specs.Overlays.{HoldsParts}
use Rattle.fold_merge.proofs.Covering.{AreCivil}
use Rattle.fold_merge.proofs.heads.hold_parts.Given as goal

-- where it holds of the images that are left, it holds of all
abbrev pub invariant-loop-rest : goal.invariant-loop-rest
invariant-loop-rest l = record {
  parts : AllByRecursion HoldsParts (held l.rest) → AllByRecursion HoldsParts (held l.images);
  hours : AllByRecursion AreCivil (held l.rest) → AllByRecursion AreCivil (held l.images);
}

abbrev pub decreases-loop-rest : goal.decreases-loop-rest
decreases-loop-rest l = length l.rest
