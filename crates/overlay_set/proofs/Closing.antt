-- What is closed stays closed, and gets no more publications.
use Rattle.std.proofs.Common.{◌≡◌, ℕ, ◌<◌, ◌≤◌, IsTrue, Bool, true, false, cond, List, [], ◌∷◌, ◌++◌, ◌||◌, refl, sym, ap, ◌∙◌, append-nil, filter, nat_cmp, Less, arith}
use Rattle.std.specs.List.{AllByRecursion, list_any}
use Rattle.std.proofs.lemmas.Bool.Decides.{nat_tests}
use Rattle.live_model.specs.declared.levels.Level.{Level}
use Rattle.live_model.specs.declared.levels.Level.TheVariants.{Base, Hour, Day, Month}
use Rattle.stamp_core.specs.Hours.{CivilHour, number_of}
use Rattle.overlay_set.specs.Sets.{Entry}
use Rattle.overlay_set.specs.Periods.{stretch, is_within, is_past, is_closed, entries_in}
use Rattle.overlay_set.specs.Standing.{AreRising, IsPeriodRun}

pub stretch-mono : (level : Level) (a b : CivilHour) → number_of a ≤ number_of b → stretch level a ≤ stretch level b
stretch-mono Base a b le = omega arith
stretch-mono Hour a b le = le
stretch-mono Day a b le = omega arith
stretch-mono Month a b le = omega arith

pub less-lt : (m n : ℕ) → nat_cmp m n ≡ Less → m < n
less-lt m n e = grind (arith, nat_tests)

pub any-append : {A : Type 0} (p : A → Bool) (xs ys : List A) → IsTrue (list_any p xs) → IsTrue (list_any p (xs ++ ys))
any-append p [] ys h = absurd cc
any-append {A} p (x ∷ xs) ys h = go (p x) (any-append p xs ys) h
  where
    go : (b : Bool) → (IsTrue (list_any p xs) → IsTrue (list_any p (xs ++ ys))) → IsTrue (b || list_any p xs) → IsTrue (b || list_any p (xs ++ ys))
    go true ih h = refl
    go false ih h = ih h

pub filter-append : {A : Type 0} (p : A → Bool) (xs ys : List A) → filter p (xs ++ ys) ≡ filter p xs ++ filter p ys
filter-append p [] ys = refl
filter-append {A} p (x ∷ xs) ys = go (p x) (filter-append p xs ys)
  where
    go : (b : Bool) → filter p (xs ++ ys) ≡ filter p xs ++ filter p ys
        → cond b (x ∷ filter p (xs ++ ys)) (filter p (xs ++ ys)) ≡ cond b (x ∷ filter p xs) (filter p xs) ++ filter p ys
    go true e = ap (λ l. x ∷ l) e
    go false e = e

-- the entries lie in later stretches than the hour
abbrev pub ArePast : Level → CivilHour → List Entry → Type 0
ArePast level hour entries = AllByRecursion (λ e. stretch level hour < stretch level e.stamp) entries

-- entries behind one that is past are past
behind : (level : Level) (hour : CivilHour) (x : Entry) (xs ys : List Entry) → stretch level hour < stretch level x.stamp
    → AllByRecursion (λ y. nat_cmp (number_of x.stamp) (number_of y.stamp) ≡ Less) (xs ++ ys) → ArePast level hour ys
behind level hour x [] [] lt h = tt
behind level hour x [] (y ∷ ys) lt h =
    (omega (arith, lt, stretch-mono level x.stamp y.stamp (omega (arith, less-lt (number_of x.stamp) (number_of y.stamp) h.0))), behind level hour x [] ys lt h.1)
behind level hour x (z ∷ xs) ys lt h = behind level hour x xs ys lt h.1

pub past_all : (level : Level) (hour : CivilHour) (xs ys : List Entry) → AreRising (xs ++ ys) → IsTrue (is_closed level xs hour) → ArePast level hour ys
past_all level hour [] ys rising c = absurd cc
past_all level hour (x ∷ xs) ys rising c = go (is_past level hour x.stamp) refl (past_all level hour xs ys rising.1) c
  where
    go : (b : Bool) → is_past level hour x.stamp ≡ b → (IsTrue (is_closed level xs hour) → ArePast level hour ys) → IsTrue (b || is_closed level xs hour) → ArePast level hour ys
    go true e ih c = behind level hour x xs ys (grind (arith, nat_tests)) rising.0
    go false e ih c = ih c

-- past entries are none of the period's
none_of : (level : Level) (hour : CivilHour) (entries : List Entry) → ArePast level hour entries → entries_in (record { level = level; hour = hour }) entries ≡ []
none_of level hour [] past = refl
none_of level hour (e ∷ es) past = go (is_within level hour e.stamp) refl (none_of level hour es past.1)
  where
    go : (b : Bool) → is_within level hour e.stamp ≡ b → entries_in (record { level = level; hour = hour }) es ≡ []
        → cond b (e ∷ entries_in (record { level = level; hour = hour }) es) (entries_in (record { level = level; hour = hour }) es) ≡ []
    go true is ih = absurd (grind (arith, nat_tests))
    go false is ih = ih

-- a closed period has the same entries in a longer history
pub entries_stay : (level : Level) (hour : CivilHour) (xs ys : List Entry) → AreRising (xs ++ ys) → IsTrue (is_closed level xs hour)
    → entries_in (record { level = level; hour = hour }) (xs ++ ys) ≡ entries_in (record { level = level; hour = hour }) xs
entries_stay level hour xs ys rising closed =
    filter-append (λ e. is_within level hour e.stamp) xs ys ∙ ap (λ l. entries_in (record { level = level; hour = hour }) xs ++ l) (none_of level hour ys (past_all level hour xs ys rising closed)) ∙ append-nil _

pub closed_stays : (level : Level) (hour : CivilHour) (xs ys : List Entry) → IsTrue (is_closed level xs hour) → IsTrue (is_closed level (xs ++ ys) hour)
closed_stays level hour xs ys closed = any-append (λ e. is_past level hour e.stamp) xs ys closed

pub period_run_stays : (level : Level) (xs ys run : List Entry) → AreRising (xs ++ ys) → IsPeriodRun level xs run → IsPeriodRun level (xs ++ ys) run
period_run_stays level xs ys run rising p = record {
  hour = p.hour;
  closed = closed_stays level p.hour xs ys p.closed;
  whole = p.whole ∙ sym (entries_stay level p.hour xs ys rising p.closed);
  some = p.some;
}
