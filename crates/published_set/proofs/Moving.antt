-- Sites whose state stays, or gets a fold.
use Rattle.std.proofs.Common.{◌≡◌, List, [], ◌∷◌, None, refl}
use Rattle.overlay_set.specs.Sets.{State, images_of}
use Rattle.overlay_set.specs.Swaps.{FoldPlan, Fits, Replace, fold_image, missing}
use Rattle.overlay_set.specs.SetLaws.{IsReached}
use Rattle.overlay_set.specs.Machines.{with_fold}
use Rattle.live_model.specs.declared.objects.Line.{Line}
use Rattle.live_model.specs.declared.rules.Rule.{Rule}
use Rattle.published_set.specs.Sites.{IsFolded, IsMoved, Site}

-- a state is reached from itself
pub reached_here : (rules : List Rule) (base : List Line) (s : State) → IsReached rules base s s
reached_here rules base s = record { swaps = []; good = tt; journal = tt; ends = refl }

-- a site that changes only its counts
pub unmoved : (before after : Site) → after.rules ≡ before.rules → after.base ≡ before.base → after.state ≡ before.state → IsMoved before after
unmoved before after rules base state = record { rules = rules; base = base; reached = record { swaps = []; good = tt; journal = tt; ends = state } }

-- a fold that fits, all of whose files are there, leads on
pub reached_fold : (rules : List Rule) (base : List Line) (s : State) (plan : FoldPlan) → Fits plan s → missing plan s ≡ None → IsReached rules base s (with_fold plan s)
reached_fold rules base s plan fits all =
    record { swaps = Replace plan (fold_image plan.level (images_of plan.files)) ∷ []; good = (tt, tt); journal = ((fits, all, refl), tt); ends = refl }

-- a site whose state gets a fold
pub folded_moves : (before after : Site) (plan : FoldPlan) → Fits plan before.state → missing plan before.state ≡ None → after.rules ≡ before.rules → after.base ≡ before.base → after.state ≡ with_fold plan before.state
    → IsMoved before after × IsFolded plan before after
folded_moves before after plan fits all rules base folded = (
  record {
    rules = rules;
    base = base;
    reached = record { swaps = Replace plan (fold_image plan.level (images_of plan.files)) ∷ []; good = (tt, tt); journal = ((fits, all, refl), tt); ends = folded };
  },
  record { found = before.state; reached = reached_here before.rules before.base before.state; all = all; folded = folded },
)
