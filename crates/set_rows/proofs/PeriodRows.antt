-- Small histories: their closed days and months, their periods and their shape.
use Rattle.std.proofs.Common.{◌≡◌, ℕ, List, [], ◌∷◌, refl, Some, None, true, false, map}
use Rattle.live_model.specs.declared.levels.Level.{Level}
use Rattle.live_model.specs.declared.levels.Level.TheVariants.{Base, Hour, Day, Month}
use Rattle.stamp_core.specs.Hours.{CivilHour, civil_hour}
use Rattle.stamp_core.specs.declared.head.Head.{Head}
use Rattle.overlay_set.specs.Sets.{Entry, Image}
use Rattle.overlay_set.specs.Periods.{Period, is_closed, periods, shape}

-- a publication that changes nothing
abbrev quiet : CivilHour → Entry
quiet hour = record { stamp = hour; tag = 0; lines = [] }

-- an hour of January, February or March 2024
abbrev at : ℕ → ℕ → ℕ → CivilHour
at month day hour = civil_hour 2024 month day hour

abbrev quiet_hours : List CivilHour → List Entry
quiet_hours hours = map quiet hours

-- two hours of the first day, and one of the next
abbrev two_days : List Entry
two_days = quiet_hours (at 1 1 0 ∷ at 1 1 5 ∷ at 1 2 0 ∷ [])

-- the first day is closed by the next, and that is still open
day_closed : is_closed Day two_days (at 1 1 0) ≡ true
day_closed = refl

day_open : is_closed Day two_days (at 1 2 0) ≡ false
day_open = refl

month_open : is_closed Month two_days (at 1 1 0) ≡ false
month_open = refl

-- a day without publications is closed too, and is no period
empty_day_closed : is_closed Day (quiet_hours (at 1 1 0 ∷ at 1 3 0 ∷ [])) (at 1 2 0) ≡ true
empty_day_closed = refl

abbrev period : Level → CivilHour → Period
period level hour = record { level = level; hour = hour }

two_days-periods : periods two_days ≡ period Day (at 1 1 0) ∷ []
two_days-periods = refl

-- January, two hours of February, and one of March
abbrev three_months : List Entry
three_months = quiet_hours (at 1 1 0 ∷ at 2 1 0 ∷ at 2 1 1 ∷ at 3 1 0 ∷ [])

three_months-periods : periods three_months ≡ period Month (at 1 1 0) ∷ period Month (at 2 1 0) ∷ []
three_months-periods = refl

-- days of a closed month are no periods, those of the last month are
mixed : List CivilHour
mixed = at 1 1 0 ∷ at 1 2 0 ∷ at 2 1 0 ∷ at 2 1 7 ∷ at 2 3 0 ∷ at 2 4 1 ∷ at 2 4 2 ∷ []

mixed-periods : periods (quiet_hours mixed) ≡ period Month (at 1 1 0) ∷ period Day (at 2 1 0) ∷ period Day (at 2 3 0) ∷ []
unfolding mixed
mixed-periods = refl

abbrev heads_of : List Image → List Head
heads_of images = map (λ i. i.head) images

abbrev head : Level → CivilHour → CivilHour → Head
head level first last = record { level = level; first = Some first; last = Some last }

abbrev base_head : Head
base_head = record { level = Base; first = None; last = None }

mixed-shape : heads_of (shape [] [] (quiet_hours mixed))
    ≡ base_head ∷ head Month (at 1 1 0) (at 1 2 0) ∷ head Day (at 2 1 0) (at 2 1 7) ∷ head Day (at 2 3 0) (at 2 3 0) ∷ head Hour (at 2 4 1) (at 2 4 1)
    ∷ head Hour (at 2 4 2) (at 2 4 2) ∷ []
unfolding mixed
mixed-shape = refl

empty-shape : heads_of (shape [] [] []) ≡ base_head ∷ []
empty-shape = refl

-- the same day of another month or year is another day
other_months : periods (quiet_hours (civil_hour 2023 1 1 0 ∷ at 1 1 0 ∷ at 2 1 0 ∷ [])) ≡ period Month (civil_hour 2023 1 1 0) ∷ period Month (at 1 1 0) ∷ []
other_months = refl

-- the first hour of a month closes the month before and its last day
turn_of_month : heads_of (shape [] [] (quiet_hours (at 2 29 22 ∷ at 2 29 23 ∷ at 3 1 0 ∷ [])))
    ≡ base_head ∷ head Month (at 2 29 22) (at 2 29 23) ∷ head Hour (at 3 1 0) (at 3 1 0) ∷ []
turn_of_month = refl
