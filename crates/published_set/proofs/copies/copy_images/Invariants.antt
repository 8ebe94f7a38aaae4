use Rattle.std.proofs.Common.{◌≡◌, ◌≤◌, map, take}
use Rattle.std.specs.Arc.{arc_value}
use Rattle.std.specs.Vec.{vec_capacity}
use Rattle.published_set.proofs.copies.copy_images.Given as goal

-- those before the place are copied
abbrev pub invariant-loop-image : goal.invariant-loop-image
invariant-loop-image l = (map arc_value l.copied.items ≡ map arc_value (take l.image-index l.images)) × (l.room ≤ vec_capacity l.copied)
