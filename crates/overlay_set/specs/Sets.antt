-- What a set of overlays is: a history of publications, and map files that lie over each other.
use Rattle.std.specs.Prelude.{ℕ, max, List, [], ◌∷◌, Option, Some, None, map}
use Rattle.std.specs.List.{last_or}
use Rattle.live_model.specs.declared.levels.Level.{Level}
use Rattle.live_model.specs.declared.levels.Level.TheVariants.{Base}
use Rattle.live_model.specs.declared.objects.Line.{Line}
use Rattle.live_model.specs.declared.records.Rec.{Rec}
use Rattle.live_model.specs.declared.rules.Rule.{Rule}
use Rattle.live_model.specs.Stores.{apply}
use Rattle.live_model.specs.Maps.{Overlay, map_of, laid, folded}
use Rattle.live_model.specs.declared.objects.Entity.{Entity}
use Rattle.live_model.specs.MapLaws.{overlays}
use Rattle.stamp_core.specs.Hours.{CivilHour}
use Rattle.stamp_core.specs.declared.head.Head.{Head}

-- a publication: its hour, the publisher's own number for it, and the lines that change the map
pub record Entry : Type 0 where
  pub stamp : CivilHour
  pub tag : ℕ
  pub lines : List Line

-- what a map file holds: what it covers, its rules, and its marks and records
pub record Image : Type 0 where
  pub head : Head
  pub rules : List Rule
  pub overlay : Overlay

-- a file of a set, under the number that names it for good
pub record MapFile : Type 0 where
  pub number : ℕ
  pub image : Image

-- a history, and the files that stand for it over the base
pub record State : Type 0 where
  pub history : List Entry
  pub files : List MapFile

-- the hours of publications
abbrev pub stamps_of : List Entry → List CivilHour
stamps_of entries = map (λ e. e.stamp) entries

-- their lines
abbrev pub lines_of : List Entry → List (List Line)
lines_of entries = map (λ e. e.lines) entries

-- the numbers of files
abbrev pub numbers_of : List MapFile → List ℕ
numbers_of files = map (λ f. f.number) files

-- what they hold
abbrev pub images_of : List MapFile → List Image
images_of files = map (λ f. f.image) files

-- their marks and records
abbrev pub overlays_of : List Image → List Overlay
overlays_of images = map (λ i. i.overlay) images

-- the greatest of numbers, and 0 where there are none
abbrev pub greatest : List ℕ → ℕ
greatest [] = 0
greatest (n ∷ ns) = max n (greatest ns)

-- the greatest number of the files
abbrev pub age : State → ℕ
age s = greatest (numbers_of s.files)

-- the first of a list, if there is one
abbrev pub first_in : {A : Type 0} → List A → Option A
first_in [] = None
first_in (x ∷ xs) = Some x

-- the last of a list, if there is one
abbrev pub last_in : {A : Type 0} → List A → Option A
last_in xs = last_or None xs

-- The files of runs of the history.

-- a head of this level, with the first and the last hour of a run
abbrev pub run_head : Level → List Entry → Head
run_head level run = record { level = level; first = first_in (stamps_of run); last = last_in (stamps_of run) }

-- the image of a run of publications after a store: the fold of their overlays, each taken at its place
abbrev pub run_image : List Rule → List Entity → Level → List Entry → Image
run_image rules store level run = record { head = run_head level run; rules = rules; overlay = folded (overlays rules store (lines_of run)) }

-- the image of the base lines: their records, and no marks
abbrev pub base_image : List Rule → List Line → Image
base_image rules base =
    record { head = record { level = Base; first = None; last = None }; rules = rules; overlay = record { marks = []; records = map_of rules (apply [] base) } }

-- the base of the base lines, and no publication
abbrev pub opening : List Rule → List Line → State
opening rules base = record { history = []; files = record { number = 0; image = base_image rules base } ∷ [] }

-- The map that files show: the records of the first with the others laid over them.
abbrev pub shown : List MapFile → List Rec
shown [] = []
shown (f ∷ fs) = laid f.image.overlay.records (overlays_of (images_of fs))
