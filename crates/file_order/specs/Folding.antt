-- Which of good files cannot become one of a day or a month with those before it.
use Rattle.std.specs.Prelude.{◌==◌, ◌/◌, ◌+◌, ℕ, List, [], ◌∷◌, ◌++◌, Bool, true, ◌&&◌, not, Option, Some, None}
use Rattle.live_model.specs.declared.levels.Level.{Level}
use Rattle.live_model.specs.declared.levels.Level.TheVariants.{Day, Month}
use Rattle.stamp_core.specs.Hours.{CivilHour, number_of}
use Rattle.file_order.specs.declared.kinds.NotRun.{NotRun}
use Rattle.file_order.specs.declared.kinds.RunKind.TheVariants.{IsBase, OtherRules, StampNotLater, OtherPeriod}
use Rattle.file_order.specs.Runs.{Asked, Placed, asked, first_failing, has_rules_of, is_after, is_base}

-- the two hours lie in one day, or in one month; where there is none, none is asked
abbrev pub share_period : Level → Option CivilHour → Option CivilHour → Bool
share_period Day (Some a) (Some b) = number_of a / 100 == number_of b / 100
share_period Month (Some a) (Some b) = number_of a / 10000 == number_of b / 10000
share_period level a b = true

-- both hours of a file lie in the day, or in the month, of the first hour of another
abbrev pub is_in_period_of : Level → Placed → Placed → Bool
is_in_period_of level first file = share_period level first.head.first file.head.first && share_period level first.head.first file.head.last

-- what is asked of a file at an index, beside the first and after this hour, by rising kinds
abbrev pub part_asked : Level → ℕ → Placed → Option CivilHour → Placed → List Asked
part_asked level index first last file =
    asked index IsBase (not (is_base file)) ∷ asked index OtherRules (has_rules_of file first) ∷ asked index StampNotLater (is_after last file.head.first)
    ∷ asked index OtherPeriod (is_in_period_of level first file) ∷ []

-- the same of the files from an index on
abbrev pub parts_asked : Level → ℕ → Placed → Option CivilHour → List Placed → List Asked
parts_asked level index first last [] = []
parts_asked level index first last (file ∷ files) = part_asked level index first last file ++ parts_asked level (index + 1) first file.head.last files

-- what is asked of files that are to become one, by rising indexes; before the first there is no hour
abbrev pub fold_asked : Level → List Placed → List Asked
fold_asked level [] = []
fold_asked level (first ∷ files) = parts_asked level 0 first None (first ∷ files)

-- the first file that cannot become one with those before it, and why by the least kind
abbrev pub not_fold : Level → List Placed → Option NotRun
not_fold level files = first_failing (fold_asked level files)
