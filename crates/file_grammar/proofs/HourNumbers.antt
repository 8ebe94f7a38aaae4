-- Numbers of hours: which are one, and of which hour.
use Rattle.std.proofs.Common.{◌≡◌, ◌≤◌, ◌/◌, ◌%◌, ℕ, Bool, true, false, sym, ap, subst, ◌∙◌, arith}
use Rattle.std.specs.Prelude.{◌&&◌, ◌||◌, ◌==◌, nat_le, if◌then◌else◌}
use Rattle.std.proofs.lemmas.Bool.{and_from, and_parts, le-leb, leb-true}
use Rattle.stamp_core.specs.Calendar.{days_in_month, is_leap_year}
use Rattle.stamp_core.specs.Hours.{CivilHour, IsCivilHour, civil_hour, number_of}
use Rattle.file_grammar.specs.Files.{HourLaw, is_hour}

-- the hour whose digits a number has
unfoldable pub hour_of : ℕ → CivilHour
hour_of n = civil_hour (n / 1000000) (n / 10000 % 100) (n / 100 % 100) (n % 100)

-- the calendar has the hour with these parts
abbrev is_civil : ℕ → ℕ → ℕ → ℕ → Bool
is_civil year month day hour = nat_le year 9999 && ((nat_le 1 month && nat_le month 12) && ((nat_le 1 day && nat_le day (days_in_month year month)) && nat_le hour 23))

civil_from : (y m d h : ℕ) → is_civil y m d h ≡ true → IsCivilHour (civil_hour y m d h)
civil_from y m d h e =
    let a = and_parts (nat_le y 9999) _ e in
    let b = and_parts (nat_le 1 m && nat_le m 12) _ a.1 in
    let month = and_parts (nat_le 1 m) (nat_le m 12) b.0 in
    let f = and_parts (nat_le 1 d && nat_le d (days_in_month y m)) (nat_le h 23) b.1 in
    let day = and_parts (nat_le 1 d) (nat_le d (days_in_month y m)) f.0 in
    (leb-true y 9999 a.0, (leb-true 1 m month.0, leb-true m 12 month.1), (leb-true 1 d day.0, leb-true d (days_in_month y m) day.1), leb-true h 23 f.1)

civil_to : (y m d h : ℕ) → IsCivilHour (civil_hour y m d h) → is_civil y m d h ≡ true
civil_to y m d h c =
    and_from (nat_le y 9999) _ (le-leb y 9999 c.0)
    (and_from (nat_le 1 m && nat_le m 12) _ (and_from (nat_le 1 m) (nat_le m 12) (le-leb 1 m c.1.0) (le-leb m 12 c.1.1))
    (and_from (nat_le 1 d && nat_le d (days_in_month y m)) (nat_le h 23)
    (and_from (nat_le 1 d) (nat_le d (days_in_month y m)) (le-leb 1 d c.2.0) (le-leb d (days_in_month y m) c.2.1)) (le-leb h 23 c.3)))

number_back : (n : ℕ) → number_of (civil_hour (n / 1000000) (n / 10000 % 100) (n / 100 % 100) (n % 100)) ≡ n
number_back n = omega arith

days_case : (a b c : Bool) → (if a then (if b then 29 else 28) else (if c then 30 else 31)) ≤ 31
days_case true true c = omega arith
days_case true false c = omega arith
days_case false b true = omega arith
days_case false b false = omega arith

days_few : (y m : ℕ) → days_in_month y m ≤ 31
days_few y m = days_case (m == 2) (is_leap_year y) ((m == 4) || (m == 6) || (m == 9) || (m == 11))

-- no month has more than 31 days
pub day_few : (c : CivilHour) → IsCivilHour c → c.day ≤ 31
day_few c civil = let f = days_few c.year c.month in omega (arith, f, civil.2.1)

-- the number of an hour is one
pub hour_is : (c : CivilHour) → IsCivilHour c → is_hour (number_of c) ≡ true
hour_is c civil =
    let day = day_few c civil in
    let y : number_of c / 1000000 ≡ c.year = omega (arith, day, civil.1.1, civil.3) in
    let m : number_of c / 10000 % 100 ≡ c.month = omega (arith, day, civil.1.1, civil.3) in
    let d : number_of c / 100 % 100 ≡ c.day = omega (arith, day, civil.1.1, civil.3) in
    let h : number_of c % 100 ≡ c.hour = omega (arith, day, civil.1.1, civil.3) in
    ap (λ (k : ℕ). is_civil k (number_of c / 10000 % 100) (number_of c / 100 % 100) (number_of c % 100)) y
    ∙ ap (λ (k : ℕ). is_civil c.year k (number_of c / 100 % 100) (number_of c % 100)) m
    ∙ ap (λ (k : ℕ). is_civil c.year c.month k (number_of c % 100)) d
    ∙ ap (λ (k : ℕ). is_civil c.year c.month c.day k) h
    ∙ civil_to c.year c.month c.day c.hour civil

pub civil_of : (n : ℕ) → is_hour n ≡ true → IsCivilHour (hour_of n)
unfolding hour_of
civil_of n e = civil_from (n / 1000000) (n / 10000 % 100) (n / 100 % 100) (n % 100) e

pub number_hour : (n : ℕ) → number_of (hour_of n) ≡ n
unfolding hour_of
number_hour n = number_back n

pub hour_law : HourLaw
hour_law n = (
  λ e. record { hour = hour_of n; civil = civil_of n e; number = sym (number_hour n) },
  λ h. subst (λ (k : ℕ). is_hour k ≡ true) (sym h.number) (hour_is h.hour h.civil),
)
