-- Plans of sets, and folds of their images.
use Rattle.std.specs.Prelude.{◌≡◌, ◌≢◌, ◌⊎◌, List, [], map, None}
use Rattle.live_model.specs.declared.levels.Level.{Level}
use Rattle.live_model.specs.declared.levels.Level.TheVariants.{Day, Month}
use Rattle.file_order.specs.Folding.{not_fold}
use Rattle.obf_reader.specs.Images.{Seen}
use Rattle.overlay_set.specs.Sets.{State, images_of}
use Rattle.overlay_set.specs.Standing.{AreRising}
use Rattle.overlay_set.specs.Swaps.{FoldPlan, Fits, fold_image}
use Rattle.published_set.specs.Images.{image_of}
use Rattle.published_set.specs.Sets.{images_in}
use Rattle.fold_merge.specs.Folds.{IsFoldOf, placed_of}

-- there is an image, the level is a day or a month, and no image is one that cannot become one of it with those before it
pub record CanBecomeOne (level : Level) (images : List Seen) : Type 0 where
  pub some : images ≢ []
  pub level_is : (level ≡ Day) ⊎ (level ≡ Month)
  pub follow : not_fold level (map placed_of images) ≡ None

-- the plan fits a set whose hours rise
pub record FitsOne (plan : FoldPlan) : Type 0 where
  pub state : State
  pub rising : AreRising state.history
  pub fits : Fits plan state

-- the images of a plan that fits a set whose hours rise can become one of its level
abbrev pub AcceptedLaw : Type 0
AcceptedLaw = (plan : FoldPlan) (s : State) (images : List Seen) → AreRising s.history → Fits plan s → images_in images ≡ images_of plan.files → CanBecomeOne plan.level images

-- a fold of them stands for the fold of what they stand for
abbrev pub FinishedLaw : Type 0
FinishedLaw = (plan : FoldPlan) (images : List Seen) (image : Seen) → images_in images ≡ images_of plan.files → IsFoldOf plan.level images image
    → image_of image ≡ fold_image plan.level (images_of plan.files)
