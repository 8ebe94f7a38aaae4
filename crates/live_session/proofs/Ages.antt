-- A fold comes in under the number above the greatest, which is the greatest then.
use Rattle.std.proofs.Common.{◌≡◌, ◌≢◌, ℕ, ◌+◌, ◌<◌, List, [], ◌∷◌, ◌++◌, length, Option, Some, None, refl, ap, ap₂, subst, ◌∙◌, arith}
use Rattle.std.specs.Prelude.{slice_set}
use Rattle.std.specs.Option.{option_map}
use Rattle.std.proofs.Math.ListN.{length-set}
use Rattle.live_model.specs.declared.objects.Line.{Line}
use Rattle.live_model.specs.declared.rules.Rule.{Rule}
use Rattle.overlay_set.specs.Sets.{Image, MapFile, State, age, base_image, greatest, images_of, numbers_of}
use Rattle.overlay_set.specs.Periods.{Period, foldable}
use Rattle.overlay_set.specs.Standing.{AreApart, Stands}
use Rattle.overlay_set.specs.Swaps.{Fits, FoldPlan, Replace, applied, fold_image, missing, plan_of, replaced}
use Rattle.overlay_set.specs.Machines.{Commit, Plan, at_place, commit, commit_over, limits_of_a_board, with_fold}
use Rattle.overlay_set.proofs.Folding.{PlanStands}
use Rattle.overlay_set.proofs.Staying.{plan_stands}
use Rattle.overlay_set.proofs.Planning.{plan_law}
use Rattle.live_core.specs.Running.{Running, after_event}
use Rattle.set_events.proofs.Ages.{fold_swaps}
use Rattle.set_events.proofs.Publishing.{period_there}
use Rattle.live_session.specs.Folding.{HasWorker, IsFoldedOn}

-- What Plan and Commit make of a machine in which something is to be folded.

planned_there : {A : Type 0} (xs : List (Option A)) (x : A) → 0 < length xs → at_place (slice_set xs 0 (Some x)) 0 ≡ Some x
planned_there [] x some = absurd (omega arith)
planned_there (y ∷ ys) x some = refl

module _ (r : Running) (stands : Stands r.rules r.base r.now) (worker : HasWorker r) where
  abbrev pub planned : Running
  planned = after_event r (Plan 0)

  folded : (p : Period) → foldable r.now ≡ Some p → IsFoldedOn r (after_event planned (Commit 0))
  folded p is =
      let plan = plan_of p r.now.files in
      let there : missing plan r.now ≡ None = period_there r.now p in
      let holds : at_place planned.plans 0 ≡ Some plan =
      ap (λ (o : Option Period). at_place (slice_set r.plans 0 (option_map (λ q. plan_of q r.now.files) o)) 0) is ∙ planned_there r.plans plan worker in
      let now : (after_event planned (Commit 0)).now ≡ with_fold plan r.now =
      ap (λ (o : Option FoldPlan). (commit limits_of_a_board r.rules r.base o r.now).0) holds ∙ ap (λ (o : Option ℕ). (commit_over limits_of_a_board r.rules r.base o plan r.now).0) there in
      let fits : Fits plan r.now = plan_law r.rules r.base r.now p stands is in
      let place : PlanStands plan stands.above = plan_stands r.rules r.base r.now plan stands fits there in
      record {
        map = record { rules = refl; base = refl; history = ap (λ (s : State). s.history) now };
        workers = length-set _ _ _ ∙ length-set _ _ _;
        older = ap age now ∙ fold_swaps r.rules r.base r.now plan (fold_image plan.level (images_of plan.files)) stands place plan.files refl fits.some;
      }

  pub folds : foldable r.now ≢ None → IsFoldedOn r (after_event planned (Commit 0))
  folds due = go (foldable r.now) refl
    where
      go : (o : Option Period) → foldable r.now ≡ o → IsFoldedOn r (after_event planned (Commit 0))
      go None is = absurd (due is)
      go (Some p) is = folded p is
