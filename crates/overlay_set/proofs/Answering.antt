-- What a pass is answered, and what leaves the history as it was.
use Rattle.std.proofs.Common.{◌≡◌, ℕ, List, [], length, Option, Some, None, refl, ap}
use Rattle.live_model.specs.declared.objects.Line.{Line}
use Rattle.live_model.specs.declared.queries.Query.{Query}
use Rattle.live_model.specs.declared.rules.Rule.{Rule}
use Rattle.live_model.specs.Stores.{IsStore, apply}
use Rattle.live_model.specs.Maps.{rebuilt, answer}
use Rattle.live_model.specs.MapLaws.{FoldedLaw, HistoryLaw}
use Rattle.overlay_set.specs.Sets.{State, lines_of}
use Rattle.overlay_set.specs.Periods.{Period, shrinkable}
use Rattle.overlay_set.specs.Standing.{Stands}
use Rattle.overlay_set.specs.Swaps.{FoldPlan, missing}
use Rattle.overlay_set.proofs.Overlays.{AreOverlays}
use Rattle.overlay_set.specs.Machines.{Event, Publish, Plan, Commit, Take, Ask, Drop, Tell, Shrink, Rows, Machine, Limits, at_place, asked, shrink, commit, commit_over, step}
use Rattle.overlay_set.specs.SetLaws.{AreGood}
use Rattle.overlay_set.specs.MachineLaws.{IsNoPublish}
use Rattle.overlay_set.proofs.Showing.{shown_law}

-- the rows over the files of a set that stands are those of the map made anew
pub rows_law : FoldedLaw → HistoryLaw → (limits : Limits) (rules : List Rule) (base : List Line) (s : State) (query : Query)
    → IsStore (apply [] base) → AreGood s.history → AreOverlays rules base s.history → Stands rules base s
    → asked limits rules base (Some s) query ≡ Rows (length s.history) (answer rules query (rebuilt rules base (lines_of s.history)))
rows_law fold_ history_ limits rules base s query store lines good st =
    ap (λ records. Rows (length s.history) (answer rules query records)) (shown_law fold_ history_ rules base s store lines good st)

commit_keeps : (limits : Limits) (rules : List Rule) (base : List Line) (plan : Option FoldPlan) (s : State) → (commit limits rules base plan s).0.history ≡ s.history
commit_keeps limits rules base None s = refl
commit_keeps limits rules base (Some plan) s = go (missing plan s)
  where
    go : (o : Option ℕ) → (commit_over limits rules base o plan s).0.history ≡ s.history
    go None = refl
    go (Some n) = refl

shrink_keeps : (limits : Limits) (rules : List Rule) (base : List Line) (o : Option Period) (s : State) → (shrink limits rules base o s).0.history ≡ s.history
shrink_keeps limits rules base None s = refl
shrink_keeps limits rules base (Some p) s = refl

pub history_stays : (limits : Limits) (rules : List Rule) (base : List Line) (m : Machine) (event : Event) → IsNoPublish event
    → (step limits rules base m event).0.now.history ≡ m.now.history
history_stays limits rules base m (Publish pass stamp tag lines) is = absurd is
history_stays limits rules base m (Plan worker) is = refl
history_stays limits rules base m (Commit worker) is = commit_keeps limits rules base (at_place m.plans worker) m.now
history_stays limits rules base m (Take pass) is = refl
history_stays limits rules base m (Ask pass query) is = refl
history_stays limits rules base m (Drop pass) is = refl
history_stays limits rules base m (Tell from to) is = refl
history_stays limits rules base m Shrink is = shrink_keeps limits rules base (shrinkable m.now) m.now
