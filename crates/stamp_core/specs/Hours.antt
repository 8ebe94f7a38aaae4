-- Civil hours: which there are, their numbers, and their order in time.
use Rattle.std.specs.Prelude.{◌≡◌, ℕ, ◌+◌, ◌*◌, ◌<◌, ◌≤◌, ◌⊎◌}
use Rattle.stamp_core.specs.Calendar.{days_in_month}

-- an hour of a day, as a calendar and a clock show it
pub record CivilHour : Type 0 where
  pub year : ℕ
  pub month : ℕ
  pub day : ℕ
  pub hour : ℕ

abbrev pub civil_hour : ℕ → ℕ → ℕ → ℕ → CivilHour
civil_hour y m d h = record { year = y; month = m; day = d; hour = h }

-- the year has four digits at most, and the calendar has this day, and the day this hour
abbrev pub IsCivilHour : CivilHour → Type 0
IsCivilHour c =
    (c.year ≤ 9999)
    × ((1 ≤ c.month) × (c.month ≤ 12))
    × ((1 ≤ c.day) × (c.day ≤ days_in_month c.year c.month))
    × (c.hour ≤ 23)

-- the number whose decimal digits are year, month, day and hour
abbrev pub number_of : CivilHour → ℕ
number_of c = c.year * 1_000_000 + c.month * 10_000 + c.day * 100 + c.hour

abbrev pub IsSameMonth : CivilHour → CivilHour → Type 0
IsSameMonth a b = (a.year ≡ b.year) × (a.month ≡ b.month)

abbrev pub IsSameDay : CivilHour → CivilHour → Type 0
IsSameDay a b = (a.year ≡ b.year) × (a.month ≡ b.month) × (a.day ≡ b.day)

-- a comes before b in time: by the year, then the month, then the day, then the hour
abbrev pub IsEarlier : CivilHour → CivilHour → Type 0
IsEarlier a b =
    (a.year < b.year) ⊎ ((a.year ≡ b.year) × ((a.month < b.month) ⊎ ((a.month ≡ b.month)
    × ((a.day < b.day) ⊎ ((a.day ≡ b.day) × (a.hour < b.hour))))))

-- `next` is a civil hour after `now`, and none lies between them
pub record IsNextHour (now next : CivilHour) : Type 0 where
  pub civil : IsCivilHour next
  pub later : number_of now < number_of next
  pub least : (other : CivilHour) → IsCivilHour other → number_of now < number_of other → number_of next ≤ number_of other

-- the hour after which there is none
abbrev pub last_hour : CivilHour
last_hour = civil_hour 9999 12 31 23
