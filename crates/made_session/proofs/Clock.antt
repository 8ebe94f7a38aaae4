-- The hour that comes next.
use Rattle.std.proofs.Common.{arith, ◌≡◌, ℕ, ◌+◌, ◌*◌, ◌<◌, ◌≤◌, ◌/◌, ◌%◌, ◌⊎◌, inl, inr}
use Rattle.std.proofs.Math.Nat.{eq-or-lt_of_le}
use Rattle.stamp_core.specs.Calendar.{days_in_month}
use Rattle.stamp_core.specs.Hours.{CivilHour, IsCivilHour, IsNextHour, civil_hour, number_of}

-- no month has more than 31 days
days_at_most : (y m : ℕ) → days_in_month y m ≤ 31
days_at_most y m = grind arith

-- within a day it is the next number of the clock, in the same year
within_day : (now next : CivilHour) → IsCivilHour now → now.hour < 23 → IsNextHour now next → (next.hour ≡ now.hour + 1) × (next.year ≤ now.year)
within_day now next civil early n =
    let after = civil_hour now.year now.month now.day (now.hour + 1) in
    let is : IsCivilHour after = (civil.0, civil.1, civil.2, omega arith) in
    let most : number_of next ≤ number_of after = n.least after is (omega arith) in
    let hour : next.hour ≤ 23 = n.civil.3 in
    let days : now.day ≤ 31 = omega (arith, days_at_most now.year now.month) in
    let later : number_of now < number_of next = n.later in
    (omega arith, omega arith)

-- after the last hour of a day it is 0 o'clock, at most a year on
over_midnight : (now next : CivilHour) → IsCivilHour now → now.hour ≡ 23 → now.year < 9999 → IsNextHour now next → (next.hour ≡ 0) × (next.year ≤ now.year + 1)
over_midnight now next civil late year n =
    let newyear = civil_hour (now.year + 1) 1 1 0 in
    let is_new : IsCivilHour newyear = (omega arith, (omega arith, omega arith), (omega arith, grind arith), omega arith) in
    let days : now.day ≤ 31 = omega (arith, days_at_most now.year now.month) in
    let before_new : number_of next ≤ number_of newyear = n.least newyear is_new (omega arith) in
    let midnight = civil_hour next.year next.month next.day 0 in
    let hour : next.hour ≤ 23 = n.civil.3 in
    let later : number_of now < number_of next = n.later in
    let is_midnight : IsCivilHour midnight = (n.civil.0, n.civil.1, n.civil.2, omega arith) in
    let before : number_of next ≤ number_of midnight = n.least midnight is_midnight (omega arith) in
    (omega arith, omega arith)

-- after i hours of a clock that began at 0 o'clock, an hour on
on_time : (now next : CivilHour) (i : ℕ) → now.hour ≡ i % 24 → now.year ≤ 2024 + i / 24 → now.hour < 23 → (next.hour ≡ now.hour + 1) × (next.year ≤ now.year)
    → (next.hour ≡ (i + 1) % 24) × (next.year ≤ 2024 + (i + 1) / 24)
on_time now next i hour year early is =
    let h : next.hour ≡ now.hour + 1 = is.0 in
    let y : next.year ≤ now.year = is.1 in
    (omega arith, omega arith)

-- and from its last hour to 0 o'clock
at_midnight : (now next : CivilHour) (i : ℕ) → now.hour ≡ i % 24 → now.year ≤ 2024 + i / 24 → now.hour ≡ 23 → (next.hour ≡ 0) × (next.year ≤ now.year + 1)
    → (next.hour ≡ (i + 1) % 24) × (next.year ≤ 2024 + (i + 1) / 24)
at_midnight now next i hour year late is =
    let h : next.hour ≡ 0 = is.0 in
    let y : next.year ≤ now.year + 1 = is.1 in
    (omega arith, omega arith)

-- the clock goes on by an hour, and no year comes that has five digits
pub clock : (now next : CivilHour) (i : ℕ) → IsCivilHour now → i ≤ 9999 → now.hour ≡ i % 24 → now.year ≤ 2024 + i / 24 → IsNextHour now next
    → (next.hour ≡ (i + 1) % 24) × (next.year ≤ 2024 + (i + 1) / 24)
clock now next i civil few hour year n = by (eq-or-lt_of_le most)
  where
    most : now.hour ≤ 23
    most = civil.3

    by : (now.hour ≡ 23) ⊎ (now.hour < 23) → (next.hour ≡ (i + 1) % 24) × (next.year ≤ 2024 + (i + 1) / 24)
    by (inl late) = at_midnight now next i hour year late (over_midnight now next civil late (omega arith) n)
    by (inr early) = on_time now next i hour year early (within_day now next civil early n)
