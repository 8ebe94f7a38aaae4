-- Which files are not yet as they will be kept in the end, told by heads alone.
use Rattle.std.specs.Prelude.{◌≡◌, ℕ, ◌+◌, List, [], ◌∷◌, length, map, drop, take, Bool, false, ◌&&◌, ◌||◌, not, ◌==◌, Option, Some, None, if◌then◌else◌, slice_get}
use Rattle.std.specs.List.{prefix_len}
use Rattle.live_model.specs.declared.levels.Level.TheVariants.{Hour, Day, Month}
use Rattle.live_model.specs.declared.objects.Line.{Line}
use Rattle.live_model.specs.declared.rules.Rule.{Rule}
use Rattle.live_model.specs.Levels.{level_number}
use Rattle.stamp_core.specs.Hours.{CivilHour}
use Rattle.stamp_core.specs.declared.head.Head.{Head}
use Rattle.overlay_set.specs.Sets.{MapFile, State, stamps_of, last_in}
use Rattle.overlay_set.specs.Periods.{Period, is_past, is_hour_of, files_in, foldable, shrinkable, places_of}
use Rattle.overlay_set.specs.Standing.{Stands}

-- what files cover
abbrev pub heads_of : List MapFile → List Head
heads_of files = map (λ f. f.image.head) files

-- the day or month in which a publication of this hour is kept in the end, where this is the last one; the hour itself where it is kept alone
abbrev pub period_before : CivilHour → CivilHour → Period
period_before last hour = record { level = if is_past Month hour last then Month else if is_past Day hour last then Day else Hour; hour = hour }

-- the file begins in the period
abbrev pub begins_in : Period → Head → Bool
begins_in p head = is_hour_of p head.first

-- the first of these files does
abbrev pub next_begins_in : Period → List Head → Bool
next_begins_in p [] = false
next_begins_in p (head ∷ heads) = begins_in p head

-- where a whole fold is wanted, the level is another than that of the period
abbrev pub is_other_level : Bool → Period → Head → Bool
is_other_level whole p head = whole && not (level_number head.level == level_number p.level)

-- a file that begins with this hour is not kept alone, and another begins in its period; or it is no whole fold, where one is wanted
abbrev pub is_loose_at : Bool → CivilHour → Option CivilHour → Head → List Head → Bool
is_loose_at whole last None head after = false
is_loose_at whole last (Some hour) head after =
    not (level_number (period_before last hour).level == 1) && (next_begins_in (period_before last hour) after || is_other_level whole (period_before last hour) head)

-- of a file with others after it
abbrev pub is_loose : Bool → CivilHour → Head → List Head → Bool
is_loose whole last head after = is_loose_at whole last head.first head after

-- how many files stand before the first that is loose
abbrev pub before_loose : Bool → CivilHour → List Head → ℕ
before_loose whole last [] = 0
before_loose whole last (head ∷ after) = if is_loose whole last head after then 0 else 1 + before_loose whole last after

-- the first period that is not exactly one file of its level, or that is more than one file
abbrev pub loose_period : Bool → State → Option Period
loose_period whole s = if whole then foldable s else shrinkable s

-- of a set that stands, the first loose file is the first of the files of that period, and there is none exactly where there is no such period
pub record IsTold (whole : Bool) (last : CivilHour) (s : State) (from : ℕ) : Type 0 where
  pub none : from ≡ length s.files → loose_period whole s ≡ None
  pub some : (head : Head) (hour : CivilHour) → slice_get (heads_of s.files) from ≡ Some head → head.first ≡ Some hour
      → (loose_period whole s ≡ Some (period_before last hour))
      × (places_of (period_before last hour) s.files ≡ (from, from + prefix_len (begins_in (period_before last hour)) (drop from (heads_of s.files))))
      × (files_in (period_before last hour) s.files ≡ take (prefix_len (begins_in (period_before last hour)) (drop from (heads_of s.files))) (drop from s.files))

-- heads tell it
abbrev pub HeadsLaw : Type 0
HeadsLaw = (whole : Bool) (rules : List Rule) (base : List Line) (s : State) (last : CivilHour) → Stands rules base s → last_in (stamps_of s.history) ≡ Some last
    → IsTold whole last s (before_loose whole last (heads_of s.files))
