-- Which hours one file of a level may cover together.
use Rattle.std.specs.Prelude.{◌≡◌}
use Rattle.stamp_core.specs.Hours.{CivilHour, IsSameDay, IsSameMonth}
use Rattle.live_model.specs.declared.levels.Level.{Level}
use Rattle.live_model.specs.declared.levels.Level.TheVariants.{Base, Hour, Day, Month}

-- two hours lie in one stretch of the level; a base is no stretch of hours
abbrev pub IsWithin : Level → CivilHour → CivilHour → Type 0
IsWithin Base first last = ⊥
IsWithin Hour first last = first ≡ last
IsWithin Day first last = IsSameDay first last
IsWithin Month first last = IsSameMonth first last
