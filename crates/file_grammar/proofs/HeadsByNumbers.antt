-- The numbers of a head are good exactly where the head is.
use Rattle.std.proofs.Common.{◌≡◌, ◌≤◌, ◌<◌, ◌/◌, ◌^◌, ℕ, true, Option, Some, None, refl, ap, inl, inr, arith}
use Rattle.std.specs.Prelude.{◌&&◌, ◌==◌, nat_le, IfSome}
use Rattle.std.proofs.lemmas.Bool.{and_from, and_parts, le-leb, leb-true, eq-eqb, eqb-true}
use Rattle.live_model.specs.declared.levels.Level.{Level}
use Rattle.live_model.specs.declared.levels.Level.TheVariants.{Base, Hour, Day, Month}
use Rattle.live_model.specs.Levels.{level_number}
use Rattle.stamp_core.specs.Heads.{FitsLevel}
use Rattle.stamp_core.specs.Hours.{CivilHour, IsCivilHour, IsSameDay, IsSameMonth, number_of}
use Rattle.stamp_core.proofs.Dates.{same_hour}
use Rattle.file_grammar.specs.Files.{HeadLaw, HeadNumbers, hour_number, is_head, is_hour, is_stretch}
use Rattle.file_grammar.proofs.HourNumbers.{day_few, hour_is}
use Rattle.file_grammar.proofs.Inside.{chosen}

abbrev numbers : Level → Option CivilHour → Option CivilHour → HeadNumbers
numbers level first last = record { level = level_number level; first = hour_number first; last = hour_number last }

-- an hour has a month, so that its number is not 0
some_number : (c : CivilHour) → IsCivilHour c → number_of c ≡ 0 → ⊥
some_number c civil e = omega (arith, e, civil.1.0)

-- ---- stretches

day_is : (a b : CivilHour) → IsCivilHour a → IsCivilHour b → IsSameDay a b → number_of a / 100 ≡ number_of b / 100
day_is a b ca cb same = omega (arith, same.0, same.1, same.2, ca.3, cb.3)

month_is : (a b : CivilHour) → IsCivilHour a → IsCivilHour b → IsSameMonth a b → number_of a / 10000 ≡ number_of b / 10000
month_is a b ca cb same = let da = day_few a ca in let db = day_few b cb in omega (arith, same.0, same.1, da, db, ca.3, cb.3)

hour_from : (a b : CivilHour) → IsCivilHour a → IsCivilHour b → number_of a ≡ number_of b → a ≡ b
hour_from a b ca cb e =
    let da = day_few a ca in
    let db = day_few b cb in
    let year : a.year ≡ b.year = omega (arith, e, da, db, ca.1.1, cb.1.1, ca.3, cb.3) in
    let month : a.month ≡ b.month = omega (arith, e, da, db, ca.1.1, cb.1.1, ca.3, cb.3) in
    let day : a.day ≡ b.day = omega (arith, e, da, db, ca.1.1, cb.1.1, ca.3, cb.3) in
    let hour : a.hour ≡ b.hour = omega (arith, e, da, db, ca.1.1, cb.1.1, ca.3, cb.3) in
    same_hour a b year month day hour

day_from : (a b : CivilHour) → IsCivilHour a → IsCivilHour b → number_of a / 100 ≡ number_of b / 100 → IsSameDay a b
day_from a b ca cb e =
    let da = day_few a ca in
    let db = day_few b cb in
    (omega (arith, e, da, db, ca.1.1, cb.1.1, ca.3, cb.3), omega (arith, e, da, db, ca.1.1, cb.1.1, ca.3, cb.3), omega (arith, e, da, db, ca.1.1, cb.1.1, ca.3, cb.3))

month_from : (a b : CivilHour) → IsCivilHour a → IsCivilHour b → number_of a / 10000 ≡ number_of b / 10000 → IsSameMonth a b
month_from a b ca cb e =
    let da = day_few a ca in
    let db = day_few b cb in
    (omega (arith, e, da, db, ca.1.1, cb.1.1, ca.3, cb.3), omega (arith, e, da, db, ca.1.1, cb.1.1, ca.3, cb.3))

-- ---- from a head to its numbers

-- two hours in order that lie in one stretch of a level above the base
above : (level : ℕ) (a b : CivilHour) → IsCivilHour a → IsCivilHour b → number_of a ≤ number_of b → is_stretch level (number_of a) (number_of b) ≡ true
    → ((is_hour (number_of a) && is_hour (number_of b)) && (nat_le (number_of a) (number_of b) && is_stretch level (number_of a) (number_of b))) ≡ true
above level a b ca cb le stretch =
    and_from (is_hour (number_of a) && is_hour (number_of b)) _ (and_from (is_hour (number_of a)) (is_hour (number_of b)) (hour_is a ca) (hour_is b cb))
    (and_from (nat_le (number_of a) (number_of b)) (is_stretch level (number_of a) (number_of b)) (le-leb (number_of a) (number_of b) le) stretch)

numbers_good : (level : Level) (first last : Option CivilHour) → IfSome first IsCivilHour → IfSome last IsCivilHour → FitsLevel level first last → is_head (numbers level first last) ≡ true
numbers_good Base None None ca cb fits = refl
numbers_good Hour None None ca cb fits = absurd cc
numbers_good Day None None ca cb fits = absurd cc
numbers_good Month None None ca cb fits = absurd cc
numbers_good level None (Some b) ca cb fits = absurd fits
numbers_good level (Some a) None ca cb fits = absurd fits
numbers_good Base (Some a) (Some b) ca cb fits = absurd fits.1
numbers_good Hour (Some a) (Some b) ca cb fits = above 1 a b ca cb fits.0 (eq-eqb (number_of a) (number_of b) (ap number_of fits.1))
numbers_good Day (Some a) (Some b) ca cb fits = above 2 a b ca cb fits.0 (eq-eqb (number_of a / 100) (number_of b / 100) (day_is a b ca cb fits.1))
numbers_good Month (Some a) (Some b) ca cb fits = above 3 a b ca cb fits.0 (eq-eqb (number_of a / 10000) (number_of b / 10000) (month_is a b ca cb fits.1))

-- ---- and back

-- hours that numbers are, in order
record AreHours (level : ℕ) (first last : ℕ) : Type 0 where
  first_is : is_hour first ≡ true
  last_is : is_hour last ≡ true
  ordered : first ≤ last
  stretch : is_stretch level first last ≡ true

hours_in : (level first last : ℕ) → ((is_hour first && is_hour last) && (nat_le first last && is_stretch level first last)) ≡ true → AreHours level first last
hours_in level first last e =
    let p = and_parts (is_hour first && is_hour last) _ e in
    let hours = and_parts (is_hour first) (is_hour last) p.0 in
    let order = and_parts (nat_le first last) (is_stretch level first last) p.1 in
    record { first_is = hours.0; last_is = hours.1; ordered = leb-true first last order.0; stretch = order.1 }

-- 0 is no hour
no_first : (level last : ℕ) → AreHours level 0 last → ⊥
no_first level last a = let e = a.first_is in cc

no_last : (level first : ℕ) → AreHours level first 0 → ⊥
no_last level first a = let e = a.last_is in cc

head_good : (level : Level) (first last : Option CivilHour) → IfSome first IsCivilHour → IfSome last IsCivilHour → is_head (numbers level first last) ≡ true → FitsLevel level first last
head_good Base None None ca cb e = refl
head_good Base None (Some b) ca cb e = absurd (some_number b cb (eqb-true (number_of b) 0 e))
head_good Base (Some a) last ca cb e = absurd (some_number a ca (eqb-true (number_of a) 0 (and_parts (number_of a == 0) (hour_number last == 0) e).0))
head_good Hour None last ca cb e = absurd (no_first 1 (hour_number last) (hours_in 1 0 (hour_number last) e))
head_good Day None last ca cb e = absurd (no_first 2 (hour_number last) (hours_in 2 0 (hour_number last) e))
head_good Month None last ca cb e = absurd (no_first 3 (hour_number last) (hours_in 3 0 (hour_number last) e))
head_good Hour (Some a) None ca cb e = absurd (no_last 1 (number_of a) (hours_in 1 (number_of a) 0 e))
head_good Day (Some a) None ca cb e = absurd (no_last 2 (number_of a) (hours_in 2 (number_of a) 0 e))
head_good Month (Some a) None ca cb e = absurd (no_last 3 (number_of a) (hours_in 3 (number_of a) 0 e))
head_good Hour (Some a) (Some b) ca cb e =
    let h = hours_in 1 (number_of a) (number_of b) e in (h.ordered, hour_from a b ca cb (eqb-true (number_of a) (number_of b) h.stretch))
head_good Day (Some a) (Some b) ca cb e =
    let h = hours_in 2 (number_of a) (number_of b) e in (h.ordered, day_from a b ca cb (eqb-true (number_of a / 100) (number_of b / 100) h.stretch))
head_good Month (Some a) (Some b) ca cb e =
    let h = hours_in 3 (number_of a) (number_of b) e in (h.ordered, month_from a b ca cb (eqb-true (number_of a / 10000) (number_of b / 10000) h.stretch))

pub head_law : HeadLaw
head_law head first last = (head_good head.level head.first head.last first last, numbers_good head.level head.first head.last first last)

-- ---- how large they are

-- 64 bits at most
pub record HasSmallNumbers (head : HeadNumbers) : Type 0 where
  pub level : head.level < 2 ^ 64
  pub first : head.first < 2 ^ 64
  pub last : head.last < 2 ^ 64

hour_small : (n : ℕ) → is_hour n ≡ true → n < 2 ^ 64
hour_small n e = let year : n / 1000000 ≤ 9999 = leb-true (n / 1000000) 9999 (and_parts (nat_le (n / 1000000) 9999) _ e).0 in omega (arith, year)

level_small : (level first last : ℕ) → is_stretch level first last ≡ true → level < 2 ^ 64
level_small level first last e =
    elim (chosen (level == 1) _ _ true e) [
      | inl c ↦ (let f : level ≡ 1 = eqb-true level 1 c.0 in omega (arith, f))
      | inr c ↦ elim (chosen (level == 2) _ _ true c.1) [
        | inl d ↦ (let f : level ≡ 2 = eqb-true level 2 d.0 in omega (arith, f))
        | inr d ↦ (let f : level ≡ 3 = eqb-true level 3 (and_parts (level == 3) (first / 10000 == last / 10000) d.1).0 in omega (arith, f))
      ]
    ]

pub head_small : (head : HeadNumbers) → is_head head ≡ true → HasSmallNumbers head
head_small head e =
    elim (chosen (head.level == 0) ((head.first == 0) && (head.last == 0)) ((is_hour head.first && is_hour head.last) && (nat_le head.first head.last && is_stretch head.level head.first head.last)) true e) [
      | inl c ↦ (
          let level : head.level ≡ 0 = eqb-true head.level 0 c.0 in
          let none = and_parts (head.first == 0) (head.last == 0) c.1 in
          let first : head.first ≡ 0 = eqb-true head.first 0 none.0 in
          let last : head.last ≡ 0 = eqb-true head.last 0 none.1 in
          record { level = omega (arith, level); first = omega (arith, first); last = omega (arith, last) })
      | inr c ↦ (
          let h = hours_in head.level head.first head.last c.1 in
          record { level = level_small head.level head.first head.last h.stretch; first = hour_small head.first h.first_is; last = hour_small head.last h.last_is })
    ]
