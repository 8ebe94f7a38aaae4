-- How a set whose lines and images are shared is seen: as plain records, without their owners.
use Rattle.std.specs.Prelude.{◌≡◌, ◌⊎◌, ℕ, ◌+◌, ◌≤◌, List, [], ◌∷◌, Bool, Option, Some, drop, length, map, slice_get, slice_range}
use Rattle.std.specs.List.{AllByRecursion, prefix_len}
use Rattle.std.specs.Option.{option_and_then}
use Rattle.std.specs.Arc.{arc_value}
use Rattle.live_model.specs.declared.levels.Level.{Level}
use Rattle.live_model.specs.declared.objects.Line.{Line}
use Rattle.live_model.specs.declared.rules.Rule.{Rule}
use Rattle.live_model.specs.Objects.{IsGoodLine}
use Rattle.overlay_set.specs.Sets.{Entry, Image, MapFile, State, images_of}
use Rattle.overlay_set.specs.Periods.{Period, files_in, foldable, places_of, shrinkable}
use Rattle.overlay_set.specs.Standing.{Stands}
use Rattle.overlay_set.specs.Swaps.{common_rules}
use Rattle.overlay_set.specs.SetLaws.{AreGood}
use Rattle.overlay_set.specs.Loose.{before_loose, begins_in, period_before}
use Rattle.stamp_core.specs.Hours.{CivilHour}
use Rattle.stamp_core.specs.declared.head.Head.{Head}
use Rattle.obf_reader.specs.Images.{Seen}
use Rattle.published_set.specs.Images.{image_of}
use Rattle.published_set.specs.declared.entry.Published.{Published}

-- a publication with its lines
abbrev pub entry_of : Published → Entry
entry_of p = record { stamp = p.stamp; tag = p.tag; lines = arc_value p.lines }

-- what files that were read cover
abbrev pub heads_in : List Seen → List Head
heads_in images = map (λ image. image.head) images

-- what they stand for
abbrev pub images_in : List Seen → List Image
images_in images = map image_of images

-- each number with its image
abbrev pub files_of : List ℕ → List Image → List MapFile
files_of (n ∷ ns) (i ∷ is) = record { number = n; image = i } ∷ files_of ns is
files_of ns is = []

-- the base lines, and what was made of them
pub record PublishedSet : Type 0 where
  pub base : List Line
  pub state : State

-- the rules of its base
abbrev pub rules_of : PublishedSet → List Rule
rules_of s = common_rules (images_of s.state.files)

-- the state stands over these base lines with these rules, and all lines are good
pub record IsStandingOver (rules : List Rule) (base : List Line) (state : State) : Type 0 where
  pub stands : Stands rules base state
  pub good_base : AllByRecursion IsGoodLine base
  pub good_history : AreGood state.history

-- the set stands over its base lines with its rules
abbrev pub IsStanding : PublishedSet → Type 0
IsStanding s = IsStandingOver (rules_of s) s.base s.state

-- the period was found, and its files are just those from one index up to another, that one not among them
pub record IsFoundAt (found : Option Period) (files : List MapFile) (from to : ℕ) (level : Level) : Type 0 where
  pub period : Period
  pub is : found ≡ Some period
  pub places : places_of period files ≡ (from, to)
  pub level_is : period.level ≡ level
  pub order : from ≤ to
  pub inside : to ≤ length files
  pub whole : files_in period files ≡ slice_range files from to

-- so stand the files of the period that is first to be folded, or of the first that can be shrunk
abbrev pub IsLoosePeriod : State → ℕ → ℕ → Level → Type 0
IsLoosePeriod s from to level = IsFoundAt (foldable s) s.files from to level ⊎ IsFoundAt (shrinkable s) s.files from to level

-- the first hour of the head at an index, if there is one
abbrev pub hour_at : List Head → ℕ → Option CivilHour
hour_at heads n = option_and_then (λ head. head.first) (slice_get heads n)

-- from one index up to another stand the files of the first period that is loose, which begins with a file of this hour
pub record IsLooseAt (whole : Bool) (last : CivilHour) (heads : List Head) (from to : ℕ) (level : Level) : Type 0 where
  pub hour : CivilHour
  pub begins : hour_at heads from ≡ Some hour
  pub from_is : from ≡ before_loose whole last heads
  pub to_is : to ≡ from + prefix_len (begins_in (period_before last hour)) (drop from heads)
  pub level_is : level ≡ (period_before last hour).level
