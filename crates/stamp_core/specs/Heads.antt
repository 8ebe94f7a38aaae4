-- When a head is good.
use Rattle.std.specs.Prelude.{◌≡◌, ◌≤◌, Option, Some, None}
use Rattle.stamp_core.specs.Hours.{CivilHour, number_of}
use Rattle.stamp_core.specs.Spans.{IsWithin}
use Rattle.stamp_core.specs.declared.head.Head.{Head}
use Rattle.live_model.specs.declared.levels.Level.{Level}
use Rattle.live_model.specs.declared.levels.Level.TheVariants.{Base}

-- a base has no stamps; above it both are there, the first at most the last, in one stretch of the level
abbrev pub FitsLevel : Level → Option CivilHour → Option CivilHour → Type 0
FitsLevel level None None = level ≡ Base
FitsLevel level (Some first) (Some last) = (number_of first ≤ number_of last) × IsWithin level first last
FitsLevel level None (Some last) = ⊥
FitsLevel level (Some first) None = ⊥

abbrev pub IsGoodHead : Head → Type 0
IsGoodHead head = FitsLevel head.level head.first head.last
