-- What events make of a journal.
use Rattle.std.specs.Prelude.{◌≡◌, ◌≢◌, ℕ, List, [], ◌∷◌, ◌++◌, length, Option, Some, None, if◌then◌else◌}
use Rattle.std.specs.List.{AllByRecursion}
use Rattle.live_model.specs.declared.levels.Level.TheVariants.{Hour}
use Rattle.live_model.specs.declared.objects.Line.{Line}
use Rattle.live_model.specs.declared.rules.Rule.{Rule}
use Rattle.live_model.specs.Maps.{published}
use Rattle.live_model.specs.Stores.{apply}
use Rattle.overlay_set.specs.Machines.{commit, is_full, limits_of_a_board, publish, refused}
use Rattle.overlay_set.specs.Periods.{Period, shrinkable}
use Rattle.overlay_set.specs.Sets.{Entry, State, images_of, lines_of, run_image}
use Rattle.overlay_set.specs.Swaps.{Add, Fits, FoldPlan, Replace, Swap, fold_image, missing, plan_of}
use Rattle.board_journal.specs.Journals.{state_after}

-- Folds.

-- the fold of the files of a plan, in their place
abbrev pub fold_swap : FoldPlan → Swap
fold_swap plan = Replace plan (fold_image plan.level (images_of plan.files))

-- the swap is a fold
abbrev pub IsFold : Swap → Type 0
IsFold (Add entry image) = ⊥
IsFold (Replace plan image) = Unit {0}

-- the second journal goes on from the first by folds alone
pub record AreFolds (before now : List Swap) : Type 0 where
  pub folds : List Swap
  pub only : AllByRecursion IsFold folds
  pub joined : now ≡ before ++ folds

-- Publications.

-- the journal with the fold of the files of a period, if there is a period
abbrev pub with_fold_of : Option Period → State → List Swap → List Swap
with_fold_of None s log = log
with_fold_of (Some p) s log = log ++ fold_swap (plan_of p s.files) ∷ []

module _ (rules : List Rule) (base : List Line) where
  -- where there is no room for a file, the first day or month that can be shrunk is folded
  abbrev pub with_room : List Swap → List Swap
  with_room log = let s = state_after rules base log in if is_full limits_of_a_board rules base s then with_fold_of (shrinkable s) s log else log

  -- the publication, with the file of its overlay
  abbrev pub entry_swap : List Swap → Entry → Swap
  entry_swap log entry = Add entry (run_image rules (published (apply [] base) (lines_of (state_after rules base log).history)) Hour (entry ∷ []))

  -- the journal after a publication that comes in: room is made for it, and then it is added
  abbrev pub published_after : List Swap → Entry → List Swap
  published_after log entry = with_room log ++ entry_swap (with_room log) entry ∷ []

  -- so the state is the one that the machine has after the publication
  abbrev pub PublishedLaw : Type 0
  PublishedLaw = (log : List Swap) (entry : Entry) → refused limits_of_a_board rules base (state_after rules base log) entry.stamp ≡ None
      → state_after rules base (published_after log entry) ≡ (publish limits_of_a_board rules base (state_after rules base log) entry).0

  -- and after a fold whose files are there, the one that it has after the commit
  abbrev pub FoldedLaw : Type 0
  FoldedLaw = (log : List Swap) (plan : FoldPlan) → missing plan (state_after rules base log) ≡ None
      → state_after rules base (log ++ fold_swap plan ∷ []) ≡ (commit limits_of_a_board rules base (Some plan) (state_after rules base log)).0
