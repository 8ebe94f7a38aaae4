use Rattle.std.proofs.Common.{map, take}
use Rattle.std.specs.Arc.{arc_value}
use Rattle.std.specs.List.{AllByRecursion}
use Rattle.obf_run.specs.Images.{IsHeld}
use Rattle.run_history.proofs.shown.are_told.Given as goal

-- those before the place are
abbrev pub invariant-loop-image : goal.invariant-loop-image
invariant-loop-image l = AllByRecursion (λ i. IsHeld i.bytes i) (map arc_value (take l.image-index l.images))
