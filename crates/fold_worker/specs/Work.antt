-- What a worker did at a site, as counts tell it.
use Rattle.std.specs.Prelude.{◌≡◌, ℕ, ◌+◌, ◌-◌, ◌^◌, ◌<◌, ◌≤◌, Result, Ok, Err}
use Rattle.std.specs.Fn.{iterate}
use Rattle.published_set.specs.Sites.{AreCounts, IsMoved, Site, raised}
use Rattle.fold_worker.specs.declared.report.WorkReport.{WorkReport}

-- the counts of a site were raised so many times: by plans, by folds that came in, and by folds that were overtaken
abbrev pub AreRaised : Site → Site → ℕ → ℕ → ℕ → Type 0
AreRaised before after plans folds overtaken =
    AreCounts after (iterate raised plans before.plans) (iterate raised folds before.folds) (iterate raised overtaken before.overtaken)

-- What the caller of a worker learns:

-- the counts of commits were raised as often as the report says; each commit had a plan of its own, and one more plan found nothing
pub record IsReported (before after : Site) (report : WorkReport) : Type 0 where
  pub plans : ℕ
  pub more : report.folds + report.overtaken < plans
  pub counts : AreRaised before after plans report.folds report.overtaken

-- some commits were made, each with a plan of its own
pub record IsStopped (before after : Site) : Type 0 where
  pub plans : ℕ
  pub folds : ℕ
  pub overtaken : ℕ
  pub enough : folds + overtaken ≤ plans
  pub counts : AreRaised before after plans folds overtaken

-- what the counts tell where there is a report, and where there is none
abbrev pub WorkCounted : {E : Type 0} → Site → Site → Result WorkReport E → Type 0
WorkCounted before after (Ok report) = IsReported before after report
WorkCounted before after (Err e) = IsStopped before after

-- while the counts are below their last value, they rose by what was reported, and the count of plans by more than both together
pub record HaveRisen (before after : Site) (report : WorkReport) : Type 0 where
  pub folds : after.folds < 2 ^ 64 - 1 → before.folds + report.folds ≡ after.folds
  pub overtaken : after.overtaken < 2 ^ 64 - 1 → before.overtaken + report.overtaken ≡ after.overtaken
  pub plans : after.plans < 2 ^ 64 - 1 → before.plans + report.folds + report.overtaken < after.plans

-- so it is after each report
abbrev pub RisenLaw : Type 0
RisenLaw = (before after : Site) (report : WorkReport) → IsReported before after report → HaveRisen before after report

-- Inside a worker:

-- the site moved; its counts and those of the report were raised equally often, by folds that came in and folds that were overtaken;
-- of its plans, one was for each of these, and so many are left over
pub record IsWork (spare : ℕ) (before after : Site) (old new : WorkReport) : Type 0 where
  pub moved : IsMoved before after
  pub plans : ℕ
  pub folds : ℕ
  pub overtaken : ℕ
  pub enough : folds + overtaken + spare ≤ plans
  pub counts : AreRaised before after plans folds overtaken
  pub folds_told : new.folds ≡ iterate raised folds old.folds
  pub overtaken_told : new.overtaken ≡ iterate raised overtaken old.overtaken

-- the site moved, and of its counts one of those of commits was raised, as in the report, or none
pub record IsCommit (before after : Site) (old new : WorkReport) : Type 0 where
  pub moved : IsMoved before after
  pub folds : ℕ
  pub overtaken : ℕ
  pub one : folds + overtaken ≤ 1
  pub counts : AreRaised before after 0 folds overtaken
  pub folds_told : new.folds ≡ iterate raised folds old.folds
  pub overtaken_told : new.overtaken ≡ iterate raised overtaken old.overtaken
