use Rattle.std.proofs.Common.{map, take}
use Rattle.std.specs.Arc.{arc_value}
use Rattle.std.specs.List.{AllByRecursion}
use Rattle.obf_reader.specs.Images.{IsImage}
use Rattle.set_events.proofs.questions.are_images.Given as goal

-- those before the place are
abbrev pub invariant-loop-image : goal.invariant-loop-image
invariant-loop-image l = AllByRecursion IsImage (map arc_value (take l.image-index l.images))
