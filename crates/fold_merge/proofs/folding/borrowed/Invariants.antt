use Rattle.std.proofs.Common.{◌≡◌, map, take}
use Rattle.std.specs.Arc.{arc_value}
use Rattle.boxed_write.specs.Classes.{held}
use Rattle.fold_merge.proofs.folding.borrowed.Given as goal

-- those before the index are borrowed
abbrev pub invariant-loop-image : goal.invariant-loop-image
invariant-loop-image l = held l.borrowed.items ≡ map arc_value (take l.image-index l.images)
