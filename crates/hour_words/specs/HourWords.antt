-- The hour that a word names.
use Rattle.std.specs.Prelude.{ℕ, ◌+◌, ◌*◌, ◌-◌, ◌/◌, ◌%◌, List, Option, Some, None, ◌&&◌, bytes_eq, slice_index, if◌then◌else◌}
use Rattle.stamp_core.specs.Hours.{CivilHour, civil_hour}
use Rattle.stamp_core.specs.Texts.{text_of}
use Rattle.file_grammar.specs.Files.{is_hour}

-- the number that two digits spell; `0` has the code 48
abbrev pub pair_at : List ℕ → ℕ → ℕ
pair_at word at = (slice_index word at - 48) * 10 + (slice_index word (at + 1) - 48)

-- the number of the hour whose digits stand in a word as in `YYYY-MM-DD-HH`
abbrev pub number_in : List ℕ → ℕ
number_in word = (pair_at word 0 * 100 + pair_at word 2) * 1_000_000 + pair_at word 5 * 10_000 + pair_at word 8 * 100 + pair_at word 11

-- the hour that has this number
abbrev pub hour_numbered : ℕ → CivilHour
hour_numbered n = civil_hour (n / 1_000_000) (n / 10_000 % 100) (n / 100 % 100) (n % 100)

-- the hour of the calendar that is printed as this word, if one is
abbrev pub hour_of : List ℕ → Option CivilHour
hour_of word =
    let n = number_in word in if is_hour n && bytes_eq word (text_of (hour_numbered n)) then Some (hour_numbered n) else None
