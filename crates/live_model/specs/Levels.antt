-- The numbers of the levels.
use Rattle.std.specs.Prelude.{ℕ}
use Rattle.live_model.specs.declared.levels.Level.{Level}
use Rattle.live_model.specs.declared.levels.Level.TheVariants.{Base, Hour, Day, Month}

-- the levels in order, from 0 on
abbrev pub level_number : Level → ℕ
level_number Base = 0
level_number Hour = 1
level_number Day = 2
level_number Month = 3
