-- Hours that the calendar has lie in one day or month where their years, months and days say so.
use Rattle.std.proofs.Common.{◌≡◌, ◌↔◌, ◌≤◌, arith}
use Rattle.live_model.specs.declared.levels.Level.TheVariants.{Day, Month}
use Rattle.stamp_core.specs.Hours.{CivilHour, IsCivilHour, IsSameDay, IsSameMonth}
use Rattle.stamp_core.proofs.Dates.{days_in_month_bound}
use Rattle.overlay_set.specs.Periods.{stretch}

pub same_day : (a b : CivilHour) → IsCivilHour a → IsCivilHour b → (stretch Day a ≡ stretch Day b) ↔ IsSameDay a b
same_day a b ha hb =
    let da : a.day ≤ 31 = omega (arith, days_in_month_bound a.year a.month) in
    let db : b.day ≤ 31 = omega (arith, days_in_month_bound b.year b.month) in
    (λ e. omega (arith, e), λ e. omega (arith, e))

pub same_month : (a b : CivilHour) → IsCivilHour a → IsCivilHour b → (stretch Month a ≡ stretch Month b) ↔ IsSameMonth a b
same_month a b ha hb =
    let da : a.day ≤ 31 = omega (arith, days_in_month_bound a.year a.month) in
    let db : b.day ≤ 31 = omega (arith, days_in_month_bound b.year b.month) in
    (λ e. omega (arith, e), λ e. omega (arith, e))
