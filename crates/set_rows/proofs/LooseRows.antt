-- Why the files of a plan must have the heads of runs: a head that covers nothing yet would come to cover something.
use Rattle.std.proofs.Common.{◌≡◌, ◌≢◌, ◌&&◌, nat_le, List, [], ◌∷◌, ◌++◌, refl, filter, flat_map, map, length, ap, arith}
use Rattle.live_model.specs.declared.levels.Level.TheVariants.{Day}
use Rattle.stamp_core.specs.Hours.{CivilHour, civil_hour, number_of}
use Rattle.overlay_set.specs.Sets.{Entry}
use Rattle.overlay_set.specs.Periods.{entries_in}

abbrev entry : CivilHour → Entry
entry hour = record { stamp = hour; tag = 0; lines = [] }

-- what a head from one hour to another covers, where nothing else is asked of it
abbrev covered : List Entry → CivilHour × CivilHour → List Entry
covered history ends = filter (λ e. nat_le (number_of ends.0) (number_of e.stamp) && nat_le (number_of e.stamp) (number_of ends.1)) history

abbrev before : List Entry
before = map entry (civil_hour 2024 1 1 0 ∷ civil_hour 2024 1 1 5 ∷ civil_hour 2024 1 2 0 ∷ [])

abbrev after : List Entry
after = before ++ entry (civil_hour 2024 1 2 1) ∷ []

-- the two hours of the first day, and an hour that nobody has published
abbrev heads : List (CivilHour × CivilHour)
heads = (civil_hour 2024 1 1 0, civil_hour 2024 1 1 0) ∷ (civil_hour 2024 1 1 5, civil_hour 2024 1 1 5) ∷ (civil_hour 2024 1 2 1, civil_hour 2024 1 2 1) ∷ []

covers_now : flat_map (covered before) heads ≡ entries_in (record { level = Day; hour = civil_hour 2024 1 1 0 }) before
covers_now = refl

not_then : flat_map (covered after) heads ≢ entries_in (record { level = Day; hour = civil_hour 2024 1 1 0 }) after
not_then e = omega (arith, ap length e)
