-- What whoever shares a board knows of an answer: there was a state, the one that the pass had seen or a later one, that answered so.
use Rattle.std.specs.Prelude.{◌≡◌, ◌≤◌, ◌+◌, ◌*◌, ℕ, List, [], ◌∷◌, ◌++◌, length, None}
use Rattle.std.specs.List.{AllByRecursion}
use mathlib.Core.List.{IsPrefix}
use Rattle.live_model.specs.declared.objects.Line.{Line}
use Rattle.live_model.specs.declared.rules.Rule.{Rule}
use Rattle.live_model.specs.Maps.{published}
use Rattle.live_model.specs.Stores.{apply}
use Rattle.live_model.specs.Users.{touched}
use Rattle.overlay_set.specs.Machines.{limits_of_a_board, refused}
use Rattle.overlay_set.specs.Periods.{foldable, shape}
use Rattle.overlay_set.specs.Sets.{Entry, images_of, lines_of}
use Rattle.overlay_set.specs.Swaps.{FoldPlan, Swap, missing}
use Rattle.published_set.specs.Sets.{IsStanding, PublishedSet}
use Rattle.board_journal.specs.Journals.{state_after}
use Rattle.live_board.specs.Events.{AreFolds, fold_swap, published_after}
use Rattle.live_board.specs.Known.{Known}

module _ (rules : List Rule) (base : List Line) where
  -- the publication came in after a journal that begins with what was seen, and this is the journal then
  pub record CameIn (seen : List Swap) (entry : Entry) (now : List Swap) : Type 0 where
    pub before : List Swap
    pub begins : IsPrefix seen before
    pub wanted : refused limits_of_a_board rules base (state_after rules base before) entry.stamp ≡ None
    pub is : now ≡ published_after rules base before entry

  -- at most eight steps were counted for each object that the lines touch, over the history of some state of the board
  pub record IsBounded (lines : List Line) (before after : ℕ) : Type 0 where
    pub log : List Swap
    pub most : after ≤ before + 8 * length (touched (published (apply [] base) (lines_of (state_after rules base log).history)) lines)

  -- the fold came in after such a journal, whose state has all of its files
  pub record FoldCameIn (seen : List Swap) (plan : FoldPlan) (now : List Swap) : Type 0 where
    pub before : List Swap
    pub begins : IsPrefix seen before
    pub all : missing plan (state_after rules base before) ≡ None
    pub is : now ≡ before ++ fold_swap plan ∷ []

  -- from such a journal folds alone led to this one, in whose state nothing is to be folded
  pub record IsSettled (seen now : List Swap) : Type 0 where
    pub before : List Swap
    pub begins : IsPrefix seen before
    pub folds : AreFolds before now
    pub none : foldable (state_after rules base now) ≡ None
    pub shape_is : images_of (state_after rules base now).files ≡ shape rules base (state_after rules base now).history

  -- the set is that of a journal which begins with what each pass has seen
  pub record IsClosed (passes : List Known) (set : PublishedSet) : Type 0 where
    pub log : List Swap
    pub is : set ≡ record { base = base; state = state_after rules base log }
    pub begins : AllByRecursion (λ p. IsPrefix p.log log) passes
    pub standing : IsStanding set
