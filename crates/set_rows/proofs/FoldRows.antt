-- Folds of small sets: what is foldable before and after them, plans that are old, and a fold that comes too late.
use Rattle.std.proofs.Common.{◌≡◌, ℕ, List, [], ◌∷◌, ◌++◌, refl, Some, None}
use Rattle.live_model.specs.declared.levels.Level.TheVariants.{Day, Hour, Month}
use Rattle.stamp_core.specs.Hours.{CivilHour, civil_hour}
use Rattle.std.specs.List.{AllByRecursion}
use Rattle.overlay_set.specs.Sets.{Entry, State, images_of, numbers_of, run_image}
use Rattle.overlay_set.specs.Periods.{Period, foldable}
use Rattle.overlay_set.specs.Swaps.{Add, FoldPlan, Fits, Replace, Swap, fold_image, missing, plan_of}
use Rattle.overlay_set.specs.MachineLaws.{IsGoodEvent, MachineStands}
use Rattle.overlay_set.proofs.Fitting.{fits_later}
use Rattle.overlay_set.proofs.Later.{later_step}
use Rattle.overlay_set.proofs.Laws.{events}
use Rattle.overlay_set.proofs.Planning.{plan_law}
use Rattle.overlay_set.proofs.Stepping.{opened_law}
use Rattle.overlay_set.specs.Machines.{Commit, Event, Plan, Publish, limits_of_a_board, machine_after, opened, with_fold}
use Rattle.published_set.specs.Ops.{absorbed}

abbrev at : ℕ → ℕ → ℕ → CivilHour
at month day hour = civil_hour 2024 month day hour

-- a publication that changes nothing
abbrev hour : CivilHour → Event
hour stamp = Publish 0 stamp 0 []

abbrev after : List Event → State
after list = (machine_after limits_of_a_board [] [] (opened [] [] 1 1) list).now

-- two hours of the first day, and one of the next
abbrev two_days : List Event
two_days = hour (at 1 1 0) ∷ hour (at 1 1 5) ∷ hour (at 1 2 0) ∷ []

abbrev first_day : Period
first_day = record { level = Day; hour = at 1 1 0 }

abbrev fold : List Event
fold = Plan 0 ∷ Commit 0 ∷ []

day_foldable : foldable (after two_days) ≡ Some first_day
day_foldable = refl

-- a day of one file is not folded again
then_nothing : foldable (after (two_days ++ fold)) ≡ None
then_nothing = refl

-- the first hour of the next month closes the month, whatever its days are by then
then_the_month : foldable (after (two_days ++ (fold ++ (hour (at 2 1 0) ∷ [])))) ≡ Some (record { level = Month; hour = at 1 1 0 })
then_the_month = refl

the_month_of_hours : foldable (after (two_days ++ (hour (at 2 1 0) ∷ []))) ≡ Some (record { level = Month; hour = at 1 1 0 })
the_month_of_hours = refl

-- Two plans of one day.

abbrev plan : FoldPlan
plan = plan_of first_day (after two_days).files

plan_numbers : numbers_of plan.files ≡ 1 ∷ 2 ∷ []
plan_numbers = refl

-- the second finds the file of the first hour gone
second_is_missing : missing plan (after (two_days ++ fold)) ≡ Some 1
second_is_missing = refl

second_changes_nothing : with_fold plan (after (two_days ++ fold)) ≡ after (two_days ++ fold)
second_changes_nothing = refl

-- and taken in as an operation it changes nothing, where the first, taken in so, is just its swap
abbrev operation : Swap
operation = Replace plan (fold_image plan.level (images_of plan.files))

second_is_absorbed : absorbed (after (two_days ++ fold)) operation ≡ after (two_days ++ fold)
second_is_absorbed = refl

first_is_absorbed : absorbed (after two_days) operation ≡ after (two_days ++ fold)
first_is_absorbed = refl

-- a plan that was made before an hour came in has all its files, and is carried out
first_is_there : missing plan (after (two_days ++ (hour (at 1 2 1) ∷ []))) ≡ None
first_is_there = refl

comes_in : numbers_of (with_fold plan (after (two_days ++ (hour (at 1 2 1) ∷ [])))).files ≡ 0 ∷ 5 ∷ 3 ∷ 4 ∷ []
comes_in = refl

-- it fits still, as each plan does that fitted once
stands : (list : List Event) → AllByRecursion IsGoodEvent list → MachineStands [] [] (machine_after limits_of_a_board [] [] (opened [] [] 1 1) list)
stands list good = events limits_of_a_board [] [] (record { good = tt; rising = tt }) (opened [] [] 1 1) list good (opened_law [] [] 1 1)

abbrev next : Entry
next = record { stamp = at 1 2 1; tag = 0; lines = [] }

still_fits : Fits plan (after (two_days ++ (hour (at 1 2 1) ∷ [])))
still_fits =
    fits_later plan (after two_days) (after (two_days ++ (hour (at 1 2 1) ∷ []))) (stands (two_days ++ (hour (at 1 2 1) ∷ [])) (tt, (tt, (tt, (tt, tt))))).stands.rising
    (plan_law [] [] (after two_days) first_day (stands two_days (tt, (tt, (tt, tt)))).stands day_foldable) (later_step (after two_days) (Add next (run_image [] [] Hour (next ∷ []))))
