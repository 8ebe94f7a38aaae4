-- Swaps of one state for the next, journals of them, and how states follow each other.
use Rattle.std.specs.Prelude.{◌≡◌, ◌≢◌, ℕ, ◌+◌, ◌<◌, ◌≤◌, ◌⊎◌, List, [], ◌∷◌, ◌++◌, length, drop, Bool, true, false, ◌&&◌, not, ◌==◌, IsTrue, Option, None, if◌then◌else◌, find, flat_map}
use Rattle.std.specs.List.{AllByRecursion, AllZip, list_any}
use mathlib.Core.List.{IsPrefix}
use Rattle.live_model.specs.declared.levels.Level.{Level}
use Rattle.live_model.specs.declared.levels.Level.TheVariants.{Hour}
use Rattle.live_model.specs.declared.objects.Line.{Line}
use Rattle.live_model.specs.declared.rules.Rule.{Rule}
use Rattle.live_model.specs.Levels.{level_number}
use Rattle.live_model.specs.Stores.{apply}
use Rattle.live_model.specs.Maps.{published, folded}
use Rattle.stamp_core.specs.Hours.{CivilHour, number_of}
use Rattle.overlay_set.specs.Sets.{Entry, Image, MapFile, State, numbers_of, images_of, overlays_of, lines_of, run_head, run_image, age}
use Rattle.overlay_set.specs.Periods.{Period, is_closed, entries_in, is_one_of_level, files_in}

-- Plans and folds.

-- files that are to become one of this level
pub record FoldPlan : Type 0 where
  pub files : List MapFile
  pub level : Level

-- the plan to fold the files of a period
abbrev pub plan_of : Period → List MapFile → FoldPlan
plan_of p files = record { files = files_in p files; level = p.level }

-- the first hour of the first image
abbrev pub first_stamp : List Image → Option CivilHour
first_stamp [] = None
first_stamp (i ∷ is) = i.head.first

-- the last hour of the last image, or this one
abbrev pub last_stamp : Option CivilHour → List Image → Option CivilHour
last_stamp found [] = found
last_stamp found (i ∷ is) = last_stamp i.head.last is

-- the rules of the first image
abbrev pub common_rules : List Image → List Rule
common_rules [] = []
common_rules (i ∷ is) = i.rules

-- one image in place of several: from the first stamp to the last, with the fold of their overlays
abbrev pub fold_image : Level → List Image → Image
fold_image level images = record {
  head = record { level = level; first = first_stamp images; last = last_stamp None images };
  rules = common_rules images;
  overlay = folded (overlays_of images);
}

-- Swaps.

-- a publication with the file of its overlay, or a fold in place of the files of a plan
pub data Swap : Type 0 where
  Add : Entry → Image → Swap
  Replace : FoldPlan → Image → Swap

-- the first files have these numbers
abbrev pub begins_with : List ℕ → List MapFile → Bool
begins_with [] files = true
begins_with (n ∷ ns) [] = false
begins_with (n ∷ ns) (f ∷ fs) = (f.number == n) && begins_with ns fs

-- the first files have these numbers, of which there is one at least
abbrev pub is_run : List ℕ → List MapFile → Bool
is_run [] files = false
is_run (n ∷ ns) files = begins_with (n ∷ ns) files

-- a file in the place of the files with these numbers, where they stand one after another
abbrev pub replaced : List ℕ → MapFile → List MapFile → List MapFile
replaced numbers new [] = []
replaced numbers new (f ∷ fs) = if is_run numbers (f ∷ fs) then new ∷ drop (length numbers) (f ∷ fs) else f ∷ replaced numbers new fs

-- the next state; what comes in gets the number above the greatest
abbrev pub applied : State → Swap → State
applied s (Add entry image) =
    record { history = s.history ++ entry ∷ []; files = s.files ++ record { number = age s + 1; image = image } ∷ [] }
applied s (Replace plan image) =
    record { history = s.history; files = replaced (numbers_of plan.files) (record { number = age s + 1; image = image }) s.files }

-- the state after swaps in turn
abbrev pub after : State → List Swap → State
after s [] = s
after s (swap ∷ swaps) = after (applied s swap) swaps

-- Later states, and plans that fit.

-- the item is one of these
abbrev pub IsAmong : {A : Type 0} → A → List A → Type 0
IsAmong x [] = ⊥
IsAmong x (y ∷ ys) = (x ≡ y) ⊎ IsAmong x ys

-- b is a, or comes after it: it has at least the history, and of what was there it has no other file than a
pub record IsLater (a b : State) : Type 0 where
  pub history : IsPrefix a.history b.history
  pub grows : age a ≤ age b
  pub old : (f : MapFile) → IsAmong f b.files → f.number ≤ age a → IsAmong f a.files

-- the head is that of a run, which is not empty
abbrev pub IsHeadOf : List Entry → MapFile → Type 0
IsHeadOf run f = (run ≢ []) × (f.image.head ≡ run_head f.image.head.level run)

-- the files cover, in order and without a gap, all that a history has in a closed day or month
pub record CoverPeriod (files : List MapFile) (level : Level) (history : List Entry) : Type 0 where
  pub hour : CivilHour
  pub closed : IsTrue (is_closed level history hour)
  pub runs : List (List Entry)
  pub whole : flat_map (λ run. run) runs ≡ entries_in (record { level = level; hour = hour }) history
  pub heads : AllZip IsHeadOf runs files

-- no base, of a level not above the plan's, and with these rules
pub record IsPlanned (rules : List Rule) (level : Level) (f : MapFile) : Type 0 where
  pub above_base : 1 ≤ level_number f.image.head.level
  pub not_above : level_number f.image.head.level ≤ level_number level
  pub table : f.image.rules ≡ rules

-- the plan was made from the state or an earlier one
pub record Fits (plan : FoldPlan) (s : State) : Type 0 where
  pub some : plan.files ≢ []
  pub rules : List Rule
  pub planned : AllByRecursion (IsPlanned rules plan.level) plan.files
  pub given : AllByRecursion (λ f. (0 < f.number) × (f.number ≤ age s)) plan.files
  pub same : (f g : MapFile) → IsAmong f plan.files → IsAmong g s.files → f.number ≡ g.number → f ≡ g
  pub level : 2 ≤ level_number plan.level
  pub covers : CoverPeriod plan.files plan.level s.history
  pub several : IsTrue (not (is_one_of_level plan.level plan.files))

-- Journals.

-- a number of a file of the state
abbrev pub has_number : State → ℕ → Bool
has_number s n = list_any (λ f. f.number == n) s.files

-- the first number of the plan that the state has not
abbrev pub missing : FoldPlan → State → Option ℕ
missing plan s = find (λ n. not (has_number s n)) (numbers_of plan.files)

-- the state may change so
abbrev pub Takes : List Rule → List Line → State → Swap → Type 0
Takes rules base s (Add entry image) =
    AllByRecursion (λ e. number_of e.stamp < number_of entry.stamp) s.history
    × (image ≡ run_image rules (published (apply [] base) (lines_of s.history)) Hour (entry ∷ []))
Takes rules base s (Replace plan image) = Fits plan s × (missing plan s ≡ None) × (image ≡ fold_image plan.level (images_of plan.files))

-- each swap changes the state before it as it may
abbrev pub IsJournal : List Rule → List Line → State → List Swap → Type 0
IsJournal rules base s [] = Unit {0}
IsJournal rules base s (swap ∷ swaps) = Takes rules base s swap × IsJournal rules base (applied s swap) swaps
