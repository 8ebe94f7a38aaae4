use Rattle.std.proofs.Common.{map, take}
use Rattle.std.specs.Arc.{arc_value}
use Rattle.std.specs.List.{AllByRecursion}
use Rattle.map_history.specs.Written.{IsRead}
use Rattle.map_history.proofs.written.are_read.Given as goal

-- those before the place were
abbrev pub invariant-loop-image : goal.invariant-loop-image
invariant-loop-image l = AllByRecursion IsRead (map arc_value (take l.image-index l.images))
