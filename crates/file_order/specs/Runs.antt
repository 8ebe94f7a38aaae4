-- Which of good files does not follow those before it.
use Rattle.std.specs.Prelude.{◌==◌, ◌+◌, ℕ, List, [], ◌∷◌, ◌++◌, Bool, true, false, not, nat_lt, bytes_eq, if◌then◌else◌, Option, Some, None}
use Rattle.live_model.specs.declared.rules.Rule.{Rule}
use Rattle.live_model.specs.Levels.{level_number}
use Rattle.live_model.specs.Rules.{rules_text}
use Rattle.stamp_core.specs.declared.head.Head.{Head}
use Rattle.stamp_core.specs.Hours.{CivilHour, number_of}
use Rattle.file_order.specs.declared.kinds.NotRun.{NotRun}
use Rattle.file_order.specs.declared.kinds.RunKind.{RunKind}
use Rattle.file_order.specs.declared.kinds.RunKind.TheVariants.{IsBase, OtherRules, StampNotLater, NotBase}

-- what the place of a file among others depends on: what it covers, and its rules
pub record Placed : Type 0 where
  pub head : Head
  pub rules : List Rule

-- a base
abbrev pub is_base : Placed → Bool
is_base file = level_number file.head.level == 0

-- the canonical texts of their rules are the same
abbrev pub has_rules_of : Placed → Placed → Bool
has_rules_of file first = bytes_eq (rules_text file.rules) (rules_text first.rules)

-- the first hour of a file is after the last hour of the one before it; of a base no hour is asked
abbrev pub is_after : Option CivilHour → Option CivilHour → Bool
is_after (Some last) (Some first) = nat_lt (number_of last) (number_of first)
is_after last first = true

-- what is asked of a file, and what is told where it fails
pub record Asked : Type 0 where
  pub holds : Bool
  pub told : NotRun

-- that this kind of misfit is at an index
abbrev pub told_at : ℕ → RunKind → NotRun
told_at index kind = record { index = index; kind = kind }

abbrev pub asked : ℕ → RunKind → Bool → Asked
asked index kind holds = record { holds = holds; told = told_at index kind }

-- what is asked of a file at an index above 0, beside the first and after the one before it, by rising kinds
abbrev pub later_asked : ℕ → Placed → Placed → Placed → List Asked
later_asked index first before file =
    asked index IsBase (not (is_base file)) ∷ asked index OtherRules (has_rules_of file first) ∷ asked index StampNotLater (is_after before.head.last file.head.first) ∷ []

-- the same of the files from an index on
abbrev pub all_asked : ℕ → Placed → Placed → List Placed → List Asked
all_asked index first before [] = []
all_asked index first before (file ∷ files) = later_asked index first before file ++ all_asked (index + 1) first file files

-- what is asked of files, by rising indexes: that there is a first one, and it is a base, and then of each later one
abbrev pub run_asked : List Placed → List Asked
run_asked [] = asked 0 NotBase false ∷ []
run_asked (first ∷ files) = asked 0 NotBase (is_base first) ∷ all_asked 1 first first files

-- what is told of the first that fails; none where all hold
abbrev pub first_failing : List Asked → Option NotRun
first_failing [] = None
first_failing (a ∷ more) = if a.holds then first_failing more else Some a.told

-- the first file that does not follow those before it, and why by the least kind
abbrev pub not_run : List Placed → Option NotRun
not_run files = first_failing (run_asked files)
