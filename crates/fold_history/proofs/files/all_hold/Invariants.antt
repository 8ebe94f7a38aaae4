use Rattle.std.proofs.Common.{map, take}
use Rattle.std.specs.Arc.{arc_value}
use Rattle.std.specs.List.{AllByRecursion}
use Rattle.fold_history.proofs.Reading.{Holds}
use Rattle.fold_history.proofs.files.all_hold.Given as goal

-- those before the place do
abbrev pub invariant-loop-image : goal.invariant-loop-image
invariant-loop-image l = AllByRecursion Holds (map arc_value (take l.image-index l.images))
