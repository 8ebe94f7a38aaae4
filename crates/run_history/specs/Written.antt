-- The map files that runs write of a base and of its changes.
use Rattle.std.specs.Prelude.{◌≡◌, ℕ, List, [], ◌∷◌, ◌++◌, Some}
use Rattle.std.specs.Ordering.{nat_cmp}
use Rattle.ordered_lists.specs.Ordered.{IsRisingBy}
use Rattle.live_model.specs.declared.objects.Line.{Line}
use Rattle.live_model.specs.declared.rules.Rule.{Rule}
use Rattle.live_model.specs.OplTexts.{OplText}
use Rattle.live_model.specs.Rules.{RuleText}
use Rattle.stamp_core.specs.Hours.{CivilHour, number_of}
use Rattle.run_model.specs.Jobs.{AreTexts, IsBuilt, IsChanged, Outcome}
use Rattle.map_history.specs.Written.{Change, lines_of}

-- these bytes are the file that `build` writes of a table of rules and a text of objects
pub record IsFileOfBuild (table text bytes : List ℕ) : Type 0 where
  pub outcome : Outcome
  pub built : IsBuilt table text outcome
  pub written : outcome.written ≡ Some bytes

-- these bytes are the file that `change` writes for an hour, of a table, a text of objects and texts of changes
pub record IsFileOfChange (hour : CivilHour) (table text : List ℕ) (texts : List (List ℕ)) (bytes : List ℕ) : Type 0 where
  pub outcome : Outcome
  pub changed : IsChanged hour table text texts outcome
  pub written : outcome.written ≡ Some bytes

-- each of these is the file of a change, after all texts of changes before it
abbrev pub AreFilesOfChanges : (table text : List ℕ) → (earlier : List (List ℕ)) → List Change → (texts files : List (List ℕ)) → Type 0
AreFilesOfChanges table text earlier [] [] [] = Unit {0}
AreFilesOfChanges table text earlier (c ∷ cs) (t ∷ ts) (bytes ∷ more) =
    IsFileOfChange c.hour table text (earlier ++ t ∷ []) bytes × AreFilesOfChanges table text (earlier ++ t ∷ []) cs ts more
AreFilesOfChanges table text earlier changes texts files = ⊥

-- the first is the file of the base, and the others are those of the changes
abbrev pub AreFilesOf : (table text : List ℕ) → List Change → (texts files : List (List ℕ)) → Type 0
AreFilesOf table text changes texts [] = ⊥
AreFilesOf table text changes texts (bytes ∷ more) = IsFileOfBuild table text bytes × AreFilesOfChanges table text [] changes texts more

-- runs wrote these files of what a table, a text of objects and texts of changes spell, for hours that rise
pub record AreWritten (rules : List Rule) (base : List Line) (changes : List Change) (files : List (List ℕ)) : Type 0 where
  pub table : List ℕ
  pub text : List ℕ
  pub texts : List (List ℕ)
  pub rules_spelled : RuleText table rules
  pub base_spelled : OplText text base
  pub changes_spelled : AreTexts texts (lines_of changes)
  pub rising : IsRisingBy nat_cmp (λ c. number_of c.hour) changes
  pub files_are : AreFilesOf table text changes texts files
