-- The line that tells a map file: its level, its first hour and its last, and how many marks and records it has.
use Rattle.std.specs.Prelude.{ℕ, List, ◌++◌, codes, Option, Some, None}
use Rattle.std.specs.Fmt.{decimal as printed}
use Rattle.live_model.specs.declared.levels.Level.{Level}
use Rattle.live_model.specs.declared.levels.Level.TheVariants.{Base, Hour, Day, Month}
use Rattle.stamp_core.specs.Hours.{CivilHour}
use Rattle.stamp_core.specs.Texts.{text_of}
use Rattle.stamp_core.specs.declared.head.Head.{Head}

abbrev pub level_name : Level → List ℕ
level_name Base = codes "base"
level_name Hour = codes "hour"
level_name Day = codes "day"
level_name Month = codes "month"

-- `YYYY-MM-DD-HH`, and `-` where there is no hour
abbrev pub hour_text : Option CivilHour → List ℕ
hour_text None = codes "-"
hour_text (Some hour) = text_of hour

-- after a space
abbrev pub spaced : List ℕ → List ℕ
spaced text = codes " " ++ text

-- with single spaces, and a line feed
abbrev pub file_line : Head → ℕ → ℕ → List ℕ
file_line head marks records =
    level_name head.level ++ spaced (hour_text head.first) ++ spaced (hour_text head.last) ++ spaced (printed marks) ++ spaced (printed records) ++ codes "\n"
