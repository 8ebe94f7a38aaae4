-- What is known of a place where folds are planned and committed.
use Rattle.std.specs.Prelude.{◌≡◌, ◌≢◌, ◌<◌, ℕ, List, ◌+◌, ◌-◌, ◌^◌, min, Option, Some, None, Result, Ok, Err}
use Rattle.std.specs.Option.{option_map}
use Rattle.live_model.specs.declared.objects.Line.{Line}
use Rattle.live_model.specs.declared.rules.Rule.{Rule}
use Rattle.overlay_set.specs.Sets.{State, age}
use Rattle.overlay_set.specs.SetLaws.{IsReached}
use Rattle.overlay_set.specs.Periods.{foldable}
use Rattle.overlay_set.specs.Swaps.{FoldPlan, Fits, IsLater, missing, plan_of}
use Rattle.overlay_set.specs.Machines.{with_fold}
use Rattle.published_set.specs.Sets.{IsStandingOver}
use Rattle.published_set.specs.declared.errors.CommitError.{CommitError}
use Rattle.published_set.specs.declared.errors.CommitError.TheVariants.{NoMemory, Overtaken}

-- the rules and the base lines of its sets, the state that it saw last, the calls of `plan` that were answered, the commits that
-- were taken, and those that were overtaken
pub record Site : Type 0 where
  pub rules : List Rule
  pub base : List Line
  pub state : State
  pub plans : ℕ
  pub folds : ℕ
  pub overtaken : ℕ

-- that state stands over its base lines with its rules, and all lines are good
abbrev pub SiteStands : Site → Type 0
SiteStands site = IsStandingOver site.rules site.base site.state

-- it keeps its rules and base lines, and the state that it sees is reached from the one seen before
pub record IsMoved (before after : Site) : Type 0 where
  pub rules : after.rules ≡ before.rules
  pub base : after.base ≡ before.base
  pub reached : IsReached before.rules before.base before.state after.state

-- so that state is the same or a later one
abbrev pub MovedLaw : Type 0
MovedLaw = (before after : Site) → IsMoved before after → IsLater before.state after.state

-- one more, up to the last value of the type
abbrev pub raised : ℕ → ℕ
raised n = min (n + 1) (2 ^ 64 - 1)

-- a plan was answered, which fits, exactly where something is foldable
abbrev pub IsPlanned : State → Option FoldPlan → Type 0
IsPlanned s None = foldable s ≡ None
IsPlanned s (Some plan) = (foldable s ≢ None) × Fits plan s

-- the counts are these
abbrev pub AreCounts : Site → ℕ → ℕ → ℕ → Type 0
AreCounts site plans folds overtaken = (site.plans ≡ plans) × (site.folds ≡ folds) × (site.overtaken ≡ overtaken)

-- a call of `plan` is counted where it was answered
abbrev pub PlanCounted : {T E : Type 0} → Site → Site → Result T E → Type 0
PlanCounted before after (Ok plan) = AreCounts after (raised before.plans) before.folds before.overtaken
PlanCounted before after (Err e) = AreCounts after before.plans before.folds before.overtaken

-- the fold came in the place of its files, all of which were there, in a state that is reached from the one seen before
pub record IsFolded (plan : FoldPlan) (before after : Site) : Type 0 where
  pub found : State
  pub reached : IsReached before.rules before.base before.state found
  pub all : missing plan found ≡ None
  pub folded : after.state ≡ with_fold plan found

-- so a commit that is Ok brings a fold in: a number above all that the site had seen is there then
abbrev pub FoldedLaw : Type 0
FoldedLaw = (plan : FoldPlan) (before after : Site) → Fits plan before.state → IsFolded plan before after → SiteStands after → age before.state < age after.state

-- why a commit was answered so
abbrev pub IsAnswered : {T : Type 0} → FoldPlan → Site → Site → Result T CommitError → Type 0
IsAnswered plan before after (Ok done) = IsFolded plan before after
IsAnswered plan before after (Err NoMemory) = Unit {0}
IsAnswered plan before after (Err (Overtaken file)) = missing plan after.state ≡ Some file

-- a commit is counted as it was answered
abbrev pub CommitCounted : {T : Type 0} → Site → Site → Result T CommitError → Type 0
CommitCounted before after (Ok done) = AreCounts after before.plans (raised before.folds) before.overtaken
CommitCounted before after (Err NoMemory) = AreCounts after before.plans before.folds before.overtaken
CommitCounted before after (Err (Overtaken file)) = AreCounts after before.plans before.folds (raised before.overtaken)

-- Of a site without other users:

-- the plan of the first period that is foldable, if there is one
abbrev pub first_plan : State → Option FoldPlan
first_plan s = option_map (λ p. plan_of p s.files) (foldable s)

-- the fold came in the place of its files, all of which were there; or the state stays, and the first file that is not there is
-- reported; memory is not refused
abbrev pub IsCommitted : {T : Type 0} → FoldPlan → Site → Site → Result T CommitError → Type 0
IsCommitted plan before after (Ok done) = (missing plan before.state ≡ None) × (after.state ≡ with_fold plan before.state)
IsCommitted plan before after (Err NoMemory) = ⊥
IsCommitted plan before after (Err (Overtaken file)) = (missing plan before.state ≡ Some file) × (after.state ≡ before.state)
