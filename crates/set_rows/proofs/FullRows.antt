-- Sets at their real limits.
use Rattle.std.proofs.Common.{◌≡◌, ℕ, suc, zero, ◌+◌, ◌/◌, ◌%◌, ◌<◌, ◌≤◌, Bool, true, false, cond, ◌&&◌, ◌==◌, nat_le, is_none, List, [], ◌∷◌, ◌++◌, Option, Some, None, find, flat_map, length, map, replicate, refl, ap, ap₂, ◌∙◌, if◌then◌else◌, arith}
use Rattle.std.proofs.lemmas.Bool.Decides.{nat_tests}
use Rattle.std.specs.Option.{option_or}
use Rattle.live_model.specs.declared.levels.Level.{Level}
use Rattle.live_model.specs.declared.levels.Level.TheVariants.{Base, Hour, Day, Month}
use Rattle.live_model.specs.declared.objects.Line.{Line}
use Rattle.live_model.specs.declared.rules.Rule.{Rule}
use Rattle.live_model.specs.Levels.{level_number}
use Rattle.stamp_core.specs.Hours.{CivilHour, civil_hour, number_of}
use Rattle.overlay_set.specs.Sets.{Entry, MapFile, State, base_image, last_in, run_image, stamps_of}
use Rattle.overlay_set.specs.Periods.{Period, files_in, is_closed, is_hour_of, is_within, period_of, settled_level, settled_runs, shrinkable, stretch}
use Rattle.published_set.specs.Ops.{has_room}
use Rattle.overlay_set.specs.Machines.{Event, FilesFull, HistoryFull, Limits, Machine, Publish, Reply, is_full, late_after, limits_of_a_board, machine_after, opened, published_in, refused, step}

abbrev entry : Entry
entry = record { stamp = civil_hour 2024 1 1 0; tag = 0; lines = [] }

full : refused limits_of_a_board [] [] (record { history = replicate 65536 entry; files = [] }) (civil_hour 2024 1 1 1) ≡ Some (HistoryFull 65536)
full = refl

-- What is refused where nothing can be shrunk.

-- a set of as many files as there may be, of which none can be shrunk, takes no publication that would not be refused for another cause
full_refused : (limits : Limits) (rules : List Rule) (base : List Line) (s : State) (stamp : CivilHour) → late_after (last_in (stamps_of s.history)) (length s.history) stamp ≡ None
    → nat_le limits.entries (length s.history) ≡ false → is_full limits rules base s ≡ true → shrinkable s ≡ None
    → refused limits rules base s stamp ≡ Some (FilesFull (length s.history))
full_refused limits rules base s stamp in_time room full none =
    ap (λ (o : Option Reply). option_or o (if nat_le limits.entries (length s.history) then Some (HistoryFull (length s.history))
    else if is_full limits rules base s && is_none (shrinkable s) then Some (FilesFull (length s.history)) else None)) in_time
    ∙ ap (λ (b : Bool). cond b (Some (HistoryFull (length s.history))) (cond (is_full limits rules base s && is_none (shrinkable s)) (Some (FilesFull (length s.history))) None)) room
    ∙ ap₂ (λ (b : Bool) (o : Option Period). cond (b && is_none o) (Some (FilesFull (length s.history))) None) full none

-- Files in months that rise.

-- the month of an hour, if there is one
abbrev month_of : Option CivilHour → ℕ
month_of None = 0
month_of (Some hour) = stretch Month hour

-- there is an hour, and it lies after this month
abbrev IsAfter : ℕ → Option CivilHour → Type 0
IsAfter month None = ⊥
IsAfter month (Some hour) = month < stretch Month hour

-- each file begins in a later month than the one before
abbrev AreInMonths : ℕ → List MapFile → Type 0
AreInMonths month [] = Unit {0}
AreInMonths month (f ∷ fs) = IsAfter month f.image.head.first × AreInMonths (month_of f.image.head.first) fs

-- hours in one hour, day or month lie in one month
same_month : (level : Level) (a b : CivilHour) → 1 ≤ level_number level → is_within level a b ≡ true → stretch Month a ≡ stretch Month b
same_month Base a b some is = absurd (omega arith)
same_month Hour a b some is = let e : number_of a ≡ number_of b = grind (arith, nat_tests) in ap (λ (n : ℕ). n / 10000) e
same_month Day a b some is = let e : number_of a / 100 ≡ number_of b / 100 = grind (arith, nat_tests) in omega (arith, e)
same_month Month a b some is = grind (arith, nat_tests)

-- of later months a period has no file
none_after : (p : Period) (month : ℕ) (files : List MapFile) → 1 ≤ level_number p.level → stretch Month p.hour ≤ month → AreInMonths month files → files_in p files ≡ []
none_after p month [] some le later = refl
none_after p month (f ∷ fs) some le later = at f.image.head.first later.0 later.1 (λ next. none_after p next fs some)
  where
    at : (o : Option CivilHour) → IsAfter month o → AreInMonths (month_of o) fs → ((next : ℕ) → stretch Month p.hour ≤ next → AreInMonths next fs → files_in p fs ≡ [])
        → cond (is_hour_of p o) (f ∷ files_in p fs) (files_in p fs) ≡ []
    at None after rest ih = absurd after
    at (Some hour) after rest ih = go (is_within p.level p.hour hour) refl
      where
        go : (b : Bool) → is_within p.level p.hour hour ≡ b → cond b (f ∷ files_in p fs) (files_in p fs) ≡ []
        go true is = absurd (omega (arith, le, after, same_month p.level p.hour hour some is))
        go false is = ih (stretch Month hour) (omega (arith, le, after)) rest

-- so it has one file at most
one_at_most : (p : Period) (month : ℕ) (files : List MapFile) → 1 ≤ level_number p.level → AreInMonths month files → length (files_in p files) ≤ 1
one_at_most p month [] some rising = omega arith
one_at_most p month (f ∷ fs) some rising = at f.image.head.first rising.0 rising.1 (λ next. one_at_most p next fs some)
  where
    at : (o : Option CivilHour) → IsAfter month o → AreInMonths (month_of o) fs → ((next : ℕ) → AreInMonths next fs → length (files_in p fs) ≤ 1)
        → length (cond (is_hour_of p o) (f ∷ files_in p fs) (files_in p fs)) ≤ 1
    at None after rest ih = absurd after
    at (Some hour) after rest ih = go (is_within p.level p.hour hour) refl
      where
        go : (b : Bool) → is_within p.level p.hour hour ≡ b → length (cond b (f ∷ files_in p fs) (files_in p fs)) ≤ 1
        go true is = omega (arith, ap length (none_after p (stretch Month hour) fs some (omega (arith, same_month p.level p.hour hour some is)) rest))
        go false is = ih (stretch Month hour) rest

-- publications are kept in hours, days and months
kept : (history : List Entry) (hour : CivilHour) → 1 ≤ level_number (settled_level history hour)
kept history hour = go (is_closed Month history hour) (is_closed Day history hour)
  where
    go : (month day : Bool) → 1 ≤ level_number (cond month Month (cond day Day Hour))
    go true day = omega arith
    go false true = omega arith
    go false false = omega arith

-- where each period has one file at most, nothing can be shrunk
none_shrinks : (history : List Entry) (files : List MapFile) → ((p : Period) → 1 ≤ level_number p.level → length (files_in p files) ≤ 1) → shrinkable (record { history = history; files = files }) ≡ None
none_shrinks history files few = all (settled_runs history)
  where
    all : (runs : List (List Entry)) → find (λ p. nat_le 2 (length (files_in p files))) (flat_map (period_of history) runs) ≡ None
    all [] = refl
    all ([] ∷ runs) = all runs
    all ((e ∷ run) ∷ runs) = go (level_number (settled_level history e.stamp) == 1) (all runs)
      where
        p : Period
        p = record { level = settled_level history e.stamp; hour = e.stamp }

        one : nat_le 2 (length (files_in p files)) ≡ false
        one = let least : length (files_in p files) ≤ 1 = few p (kept history e.stamp) in grind (arith, nat_tests)

        go : (b : Bool) → find (λ p. nat_le 2 (length (files_in p files))) (flat_map (period_of history) runs) ≡ None
            → find (λ p. nat_le 2 (length (files_in p files))) (cond b [] (p ∷ []) ++ flat_map (period_of history) runs) ≡ None
        go true rest = rest
        go false rest = ap (λ (b : Bool). cond b (Some p) (find (λ p. nat_le 2 (length (files_in p files))) (flat_map (period_of history) runs))) one ∙ rest

-- A base, and an hour file for the first hour of each month.

-- the first hours of so many months, one after another, of which the first is so many after 2000-01
abbrev months : ℕ → ℕ → List CivilHour
months from zero = []
months from (suc n) = civil_hour (2000 + from / 12) (1 + from % 12) 1 0 ∷ months (from + 1) n

-- a publication that changes nothing
abbrev empty_at : CivilHour → Entry
empty_at hour = record { stamp = hour; tag = 0; lines = [] }

-- the hour files of such publications, numbered from one number on
abbrev hours_from : ℕ → List Entry → List MapFile
hours_from n [] = []
hours_from n (e ∷ es) = record { number = n; image = run_image [] [] Hour (e ∷ []) } ∷ hours_from (n + 1) es

-- a set of such publications in so many months from 2000-01 on
abbrev set_of : ℕ → State
set_of n = record {
  history = map empty_at (months 0 n);
  files = record { number = 0; image = base_image [] [] } ∷ hours_from 1 (map empty_at (months 0 n));
}

in_months : (month number from n : ℕ) → month < stretch Month (civil_hour (2000 + from / 12) (1 + from % 12) 1 0) → AreInMonths month (hours_from number (map empty_at (months from n)))
in_months month number from zero before = tt
in_months month number from (suc n) before =
    (before, in_months (stretch Month (civil_hour (2000 + from / 12) (1 + from % 12) 1 0)) (number + 1) (from + 1) n (omega arith))

-- nothing of it can be shrunk
nothing_shrinks : (n : ℕ) → shrinkable (set_of n) ≡ None
nothing_shrinks n = none_shrinks (map empty_at (months 0 n)) (set_of n).files (λ p some. one_at_most p 0 (hours_from 1 (map empty_at (months 0 n))) some (in_months 0 1 0 n (omega arith)))

-- with 1,024 files it has no room for one more, and with 1,023 it had
no_room : has_room (set_of 1023) ≡ false
no_room = refl

room_before : has_room (set_of 1022) ≡ true
room_before = refl

-- nor has a full history
no_room_after_all : has_room (record { history = replicate 65536 entry; files = [] }) ≡ false
no_room_after_all = refl

-- so it takes no more
files_full : refused limits_of_a_board [] [] (set_of 1023) (civil_hour 2085 4 1 0) ≡ Some (FilesFull 1023)
files_full = full_refused limits_of_a_board [] [] (set_of 1023) (civil_hour 2085 4 1 0) refl refl refl (nothing_shrinks 1023)

-- By the machine.

abbrev publish_at : CivilHour → Event
publish_at hour = Publish 0 hour 0 []

-- one pass, after as many events
abbrev machine_of : ℕ → Machine
machine_of n = machine_after limits_of_a_board [] [] (opened [] [] 1 0) (map publish_at (months 0 n))

-- it has come to this set
comes_to : (machine_of 1023).now ≡ set_of 1023
comes_to = refl

-- so the next publication is refused
refused_then : (step limits_of_a_board [] [] (machine_of 1023) (publish_at (civil_hour 2085 4 1 0))).1 ≡ FilesFull 1023
refused_then =
    ap (λ (s : State). (published_in limits_of_a_board [] [] (refused limits_of_a_board [] [] s (civil_hour 2085 4 1 0)) s (empty_at (civil_hour 2085 4 1 0))).1) comes_to
    ∙ ap (λ (o : Option Reply). (published_in limits_of_a_board [] [] o (set_of 1023) (empty_at (civil_hour 2085 4 1 0))).1) files_full
