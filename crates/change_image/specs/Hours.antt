-- What the file of one hour covers.
use Rattle.std.specs.Prelude.{Some}
use Rattle.live_model.specs.declared.levels.Level.TheVariants.{Hour}
use Rattle.stamp_core.specs.Hours.{CivilHour}
use Rattle.stamp_core.specs.declared.head.Head.{Head}

-- this hour alone
abbrev pub hour_head : CivilHour → Head
hour_head hour = record { level = Hour; first = Some hour; last = Some hour }
