-- The files of hours, folded into days and months.
use Rattle.std.specs.Prelude.{◌≡◌, ◌≢◌, ◌⊎◌, List, [], ◌∷◌, ◌++◌}
use Rattle.live_model.specs.declared.levels.Level.{Level}
use Rattle.live_model.specs.declared.levels.Level.TheVariants.{Day, Month}
use Rattle.obf_reader.specs.Images.{Seen}
use Rattle.fold_merge.specs.Folds.{IsFoldOf}

-- Trees of folds side by side, in order: a leaf is the image of an hour, and the image of a fold has under it the forest that it was folded
-- from.
pub data Forest : Type 0 where
  nothing : Forest
  hour : (image : Seen) → (next : Forest) → Forest
  fold : (level : Level) → (under : Forest) → (image : Seen) → (next : Forest) → Forest

-- the images at the leaves, in order
abbrev pub leaves : Forest → List Seen
leaves nothing = []
leaves (hour image next) = image ∷ leaves next
leaves (fold level under image next) = leaves under ++ leaves next

-- the images at the roots, in order
abbrev pub roots : Forest → List Seen
roots nothing = []
roots (hour image next) = image ∷ roots next
roots (fold level under image next) = image ∷ roots next

-- the image was folded from these, one at least, into a day or a month
pub record IsPeriodOf (level : Level) (images : List Seen) (image : Seen) : Type 0 where
  pub some : images ≢ []
  pub period : (level ≡ Day) ⊎ (level ≡ Month)
  pub fold : IsFoldOf level images image

-- each fold is that of the images right under it
abbrev pub AreFolds : Forest → Type 0
AreFolds nothing = Unit {0}
AreFolds (hour image next) = AreFolds next
AreFolds (fold level under image next) = IsPeriodOf level (roots under) image × (AreFolds under × AreFolds next)
