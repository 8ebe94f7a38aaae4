-- When a set stands: its files hold just what its history made of the base.
use Rattle.std.specs.Prelude.{◌≡◌, ◌≢◌, ℕ, ◌+◌, ◌*◌, ◌≤◌, List, [], ◌∷◌, length, IsTrue, sum_by, flat_map}
use Rattle.std.specs.List.{AllByRecursion}
use Rattle.std.specs.Ordering.{nat_cmp}
use Rattle.live_model.specs.declared.levels.Level.{Level}
use Rattle.live_model.specs.declared.levels.Level.TheVariants.{Base, Hour, Day, Month}
use Rattle.live_model.specs.declared.objects.Entity.{Entity}
use Rattle.live_model.specs.declared.objects.Line.{Line}
use Rattle.live_model.specs.declared.rules.Rule.{Rule}
use Rattle.ordered_lists.specs.Ordered.{IsRisingBy}
use Rattle.live_model.specs.Stores.{apply}
use Rattle.live_model.specs.Maps.{published}
use Rattle.stamp_core.specs.Hours.{CivilHour, number_of}
use Rattle.overlay_set.specs.Sets.{Entry, Image, MapFile, State, images_of, numbers_of, lines_of, run_image, base_image, age}
use Rattle.overlay_set.specs.Periods.{is_closed, entries_in}

-- 3 for an hour, 2 for a day, 1 for a month, 0 for a base
abbrev pub level_weight : Level → ℕ
level_weight Base = 0
level_weight Hour = 3
level_weight Day = 2
level_weight Month = 1

-- that of several files together
abbrev pub weight : List MapFile → ℕ
weight files = sum_by (λ f. level_weight f.image.head.level) files

-- the run is all that the history has in one closed day or month
pub record IsPeriodRun (level : Level) (history run : List Entry) : Type 0 where
  pub hour : CivilHour
  pub closed : IsTrue (is_closed level history hour)
  pub whole : run ≡ entries_in (record { level = level; hour = hour }) history
  pub some : run ≢ []

-- what a file of this level may cover: one publication, or all of one closed day or month
abbrev pub IsRunOf : Level → List Entry → List Entry → Type 0
IsRunOf Base history run = ⊥
IsRunOf Hour history run = length run ≡ 1
IsRunOf Day history run = IsPeriodRun Day history run
IsRunOf Month history run = IsPeriodRun Month history run

-- the image is that of the run, taken after a store
pub record IsFileOf (rules : List Rule) (history : List Entry) (store : List Entity) (run : List Entry) (image : Image) : Type 0 where
  pub covers : IsRunOf image.head.level history run
  pub holds : image ≡ run_image rules store image.head.level run

-- runs and images match one to one, each run taken after those before it
abbrev pub AreFilesOf : List Rule → List Entry → List Entity → List (List Entry) → List Image → Type 0
AreFilesOf rules history store [] [] = Unit {0}
AreFilesOf rules history store (run ∷ runs) (image ∷ images) =
    IsFileOf rules history store run image × AreFilesOf rules history (published store (lines_of run)) runs images
AreFilesOf rules history store runs images = ⊥

-- stamps rise strictly
abbrev pub AreRising : List Entry → Type 0
AreRising history = IsRisingBy nat_cmp (λ e. number_of e.stamp) history

-- no number comes twice
abbrev pub AreApart : List ℕ → Type 0
AreApart [] = Unit {0}
AreApart (n ∷ ns) = AllByRecursion (λ m. n ≢ m) ns × AreApart ns

-- the base has the number 0; the other files part the history into runs
pub record Stands (rules : List Rule) (base : List Line) (s : State) : Type 0 where
  pub above : List MapFile
  pub runs : List (List Entry)
  pub files : s.files ≡ record { number = 0; image = base_image rules base } ∷ above
  pub parted : s.history ≡ flat_map (λ run. run) runs
  pub held : AreFilesOf rules s.history (apply [] base) runs (images_of above)
  pub rising : AreRising s.history
  pub apart : AreApart (numbers_of s.files)
  pub light : age s + weight s.files ≤ 4 * length s.history
