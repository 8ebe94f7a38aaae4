-- How the days of the calendar crate answer to civil hours.
use Rattle.std.proofs.Common.{◌≡◌, ℕ, ◌<◌, ◌≤◌, ◌⊎◌, inl, inr, refl, sym, ap, ◌∙◌, arith, rules, ℤ, pos, negsuc, ◌+ℤ◌, ◌<ℤ◌, ◌≤ℤ◌, unsigned_abs}
use Rattle.std.proofs.lemmas.Int.{by_lt_z}
use Rattle.jiff_core.specs.declared.civil.date.Date.{Date}
use Rattle.jiff_core.specs.Date.{epoch_day}
use Rattle.jiff_core.proofs.SignedLemmas.{signed_arith, one_part}
use Rattle.jiff_core.proofs.DateLemmas.{IsEarlier, epoch_day-lt, epoch_day_range, epoch_day_injective, epoch_day_same, cases_date, days_from_civil-max}
use Rattle.stamp_core.specs.Calendar.{days_in_month}
use Rattle.stamp_core.specs.Hours.{CivilHour, IsCivilHour, civil_hour, number_of, last_hour, IsNextHour}

pub days_in_month_bound : (y m : ℕ) → days_in_month y m ≤ 31
days_in_month_bound y m = grind arith

pos_same : (m n : ℕ) → pos m ≡ pos n → m ≡ n
pos_same m n e = cc

-- hours with the same parts are one
pub same_hour : (a b : CivilHour) → a.year ≡ b.year → a.month ≡ b.month → a.day ≡ b.day → a.hour ≡ b.hour → a ≡ b
same_hour a b year month day hour =
    let parts : civil_hour a.year a.month a.day a.hour ≡ civil_hour b.year b.month b.day b.hour = cc in
    parts

-- the day of a civil hour
unfoldable date_of : (c : CivilHour) → IsCivilHour c → Date
date_of c h = record { year = pos c.year; month = c.month; day = c.day; year_in = omega (arith, signed_arith); month_in = h.1; day_in = h.2 }

-- the first hour of a day from the year 0 on
abbrev pub midnight_of : Date → CivilHour
midnight_of d = civil_hour (unsigned_abs d.year) d.month d.day 0

-- a day with this year, month and day, which is not before the year 0
abbrev pub IsDayOf : CivilHour → Date → Type 0
IsDayOf c d = (d.year ≡ pos c.year) × (d.month ≡ c.month) × (d.day ≡ c.day)

-- an hour of an earlier day has a smaller number
number-lt : (a b : CivilHour) (d e : Date) → IsCivilHour a → IsCivilHour b → IsDayOf a d → IsDayOf b e → IsEarlier d e → number_of a < number_of b
number-lt a b d e ha hb da db (inl year) =
    omega (arith, signed_arith, days_in_month_bound a.year a.month, days_in_month_bound b.year b.month)
number-lt a b d e ha hb da db (inr (year, inl month)) =
    omega (arith, signed_arith, days_in_month_bound a.year a.month, days_in_month_bound b.year b.month)
number-lt a b d e ha hb da db (inr (year, inr (month, day))) =
    omega (arith, signed_arith, days_in_month_bound a.year a.month, days_in_month_bound b.year b.month)

nonnegative : (z : ℤ) → pos 0 ≤ℤ z → z ≡ pos (unsigned_abs z)
nonnegative (pos n) h = refl
nonnegative (negsuc n) h = absurd (omega (arith, signed_arith))

-- a day from the year 0 on has a first hour
civil-midnight : (d : Date) → pos 0 ≤ℤ d.year → IsCivilHour (midnight_of d)
civil-midnight d h = (omega (arith, signed_arith, d.year_in, one_part d.year), d.month_in, d.day_in, omega arith)

-- of a day and the next one: the next is the later
next_later : (d e : Date) → epoch_day e ≡ epoch_day d +ℤ pos 1 → IsEarlier d e
next_later d e step =
    elim (cases_date d e) [
      | inl earlier ↦ earlier
      | inr (inl later) ↦ absurd (omega (arith, signed_arith, epoch_day-lt e d later))
      | inr (inr same) ↦ absurd (omega (arith, signed_arith, epoch_day_same d e same.0 same.1 same.2))
    ]

-- and no day lies between them
next_least : (d e other : Date) → epoch_day e ≡ epoch_day d +ℤ pos 1 → IsEarlier d other → IsEarlier e other ⊎ ((e.year ≡ other.year) × (e.month ≡ other.month) × (e.day ≡ other.day))
next_least d e other step h =
    elim (cases_date e other) [
      | inl earlier ↦ inl earlier
      | inr (inl later) ↦ absurd (omega (arith, signed_arith, epoch_day-lt d other h, epoch_day-lt other e later))
      | inr (inr same) ↦ inr same
    ]

-- a later hour than the last of a day is of a later day
later_day : (now other : CivilHour) (d e : Date) → IsCivilHour now → IsCivilHour other → now.hour ≡ 23 → IsDayOf now d → IsDayOf other e → number_of now < number_of other → IsEarlier d e
later_day now other d e hn ho last dn de h =
    elim (cases_date d e) [
      | inl earlier ↦ earlier
      | inr (inl later) ↦ absurd (omega (arith, number-lt other now e d ho hn de dn later))
      | inr (inr same) ↦ absurd (omega (arith, signed_arith))
    ]

-- the day after a day of the years from 0 on is no earlier than these
pub next_nonnegative : (now : CivilHour) (d e : Date) → IsDayOf now d → epoch_day e ≡ epoch_day d +ℤ pos 1 → pos 0 ≤ℤ e.year
next_nonnegative now d e dn step =
    elim (next_later d e step) [
      | inl year ↦ omega (arith, signed_arith)
      | inr same ↦ omega (arith, signed_arith, same.0)
    ]

-- after the last hour of a day comes the first hour of the next day
pub next_midnight : (now : CivilHour) (d e : Date) → IsCivilHour now → now.hour ≡ 23 → IsDayOf now d → epoch_day e ≡ epoch_day d +ℤ pos 1 → IsNextHour now (midnight_of e)
unfolding date_of
next_midnight now d e hn last dn step =
    let later = next_nonnegative now d e dn step in
    let civil = civil-midnight e later in
    let day : IsDayOf (midnight_of e) e = (nonnegative e.year later, refl, refl) in
    record {
      civil = civil;
      later = number-lt now (midnight_of e) d e hn civil dn day (next_later d e step);
      least = λ other ho h.
          let that : IsDayOf other (date_of other ho) = (refl, refl, refl) in
          elim (next_least d e (date_of other ho) step (later_day now other d (date_of other ho) hn ho last dn that h)) [
            | inl earlier ↦ omega (arith, number-lt (midnight_of e) other e (date_of other ho) civil ho day that earlier)
            | inr same ↦ omega (arith, signed_arith, same.0, same.1, same.2, day.0)
          ];
    }

civil-last : IsCivilHour last_hour
civil-last = search rules

-- only the last day has no day after it
pub last_day_is : (now : CivilHour) (d : Date) → now.hour ≡ 23 → IsDayOf now d → ¬ (epoch_day d <ℤ pos 2_932_896) → now ≡ last_hour
unfolding date_of
last_day_is now d last dn past =
    let most : epoch_day d ≡ pos 2_932_896 =
    by_lt_z (epoch_day d) (pos 2_932_896) (λ before. absurd (past before)) (λ after. omega (arith, signed_arith, epoch_day_range d)) in
    let same = epoch_day_injective d (date_of last_hour civil-last) (most ∙ sym days_from_civil-max) in
    same_hour now last_hour (pos_same _ _ (sym dn.0 ∙ same.0)) (sym dn.1 ∙ same.1) (sym dn.2 ∙ same.2) last

pub last_day-max : (now : CivilHour) (d : Date) → IsDayOf now d → now ≡ last_hour → epoch_day d ≡ pos 2_932_896
unfolding date_of
last_day-max now d dn e =
    epoch_day_same d (date_of last_hour civil-last) (dn.0 ∙ ap (λ c. pos c.year) e) (dn.1 ∙ ap (λ c. c.month) e) (dn.2 ∙ ap (λ c. c.day) e) ∙ days_from_civil-max
