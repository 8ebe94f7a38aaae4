-- Days and months of a history: which are closed, which files each should have, and which it has.
use Rattle.std.specs.Prelude.{ℕ, ◌+◌, ◌/◌, List, [], ◌∷◌, length, Bool, false, not, ◌==◌, nat_le, nat_lt, Option, Some, None, if◌then◌else◌, filter, find, take_while, flat_map}
use Rattle.std.specs.List.{list_any}
use Rattle.live_model.specs.declared.levels.Level.{Level}
use Rattle.live_model.specs.declared.levels.Level.TheVariants.{Base, Hour, Day, Month}
use Rattle.live_model.specs.declared.objects.Entity.{Entity}
use Rattle.live_model.specs.declared.objects.Line.{Line}
use Rattle.live_model.specs.declared.rules.Rule.{Rule}
use Rattle.live_model.specs.Levels.{level_number}
use Rattle.live_model.specs.Stores.{apply}
use Rattle.live_model.specs.Maps.{published}
use Rattle.stamp_core.specs.Hours.{CivilHour, number_of}
use Rattle.overlay_set.specs.Sets.{Entry, Image, MapFile, State, lines_of, run_image, base_image}

-- the number of the hour, day or month: the digits of the hour's number up to there; a base is one stretch for all hours
abbrev pub stretch : Level → CivilHour → ℕ
stretch Base hour = 0
stretch Hour hour = number_of hour
stretch Day hour = number_of hour / 100
stretch Month hour = number_of hour / 10000

-- both hours lie in one stretch of the level
abbrev pub is_within : Level → CivilHour → CivilHour → Bool
is_within level a b = stretch level a == stretch level b

-- b lies in a later stretch than a
abbrev pub is_past : Level → CivilHour → CivilHour → Bool
is_past level a b = nat_lt (stretch level a) (stretch level b)

-- the day or month of this hour is closed: a publication of a later one is in the history
abbrev pub is_closed : Level → List Entry → CivilHour → Bool
is_closed level history hour = list_any (λ e. is_past level hour e.stamp) history

-- the level at which a publication of this hour is kept in the end: with its month once that is closed, else with its day once that is, else alone
abbrev pub settled_level : List Entry → CivilHour → Level
settled_level history hour = if is_closed Month history hour then Month else if is_closed Day history hour then Day else Hour

-- an item before runs: in the first run where it goes with its first item, else in a run of its own
abbrev pub put_before : {A : Type 0} → (A → A → Bool) → A → List (List A) → List (List A)
put_before goes_with x ((y ∷ run) ∷ runs) = if goes_with x y then (x ∷ y ∷ run) ∷ runs else (x ∷ []) ∷ (y ∷ run) ∷ runs
put_before goes_with x runs = (x ∷ []) ∷ runs

-- a list cut between neighbours that do not go together
abbrev pub cut_by : {A : Type 0} → (A → A → Bool) → List A → List (List A)
cut_by goes_with [] = []
cut_by goes_with (x ∷ xs) = put_before goes_with x (cut_by goes_with xs)

-- the history cut into what is kept together in the end: closed months, closed days of the last month, hours of the last day
abbrev pub settled_runs : List Entry → List (List Entry)
settled_runs history = cut_by (λ a b. is_within (settled_level history a.stamp) a.stamp b.stamp) history

-- Periods.

-- the day or the month in which an hour lies
pub record Period : Type 0 where
  pub level : Level
  pub hour : CivilHour

-- the stretch of a run that is not an hour
abbrev pub period_of : List Entry → List Entry → List Period
period_of history [] = []
period_of history (e ∷ run) =
    if level_number (settled_level history e.stamp) == 1 then [] else record { level = settled_level history e.stamp; hour = e.stamp } ∷ []

-- the closed months, and the closed days of the last month, that have publications, in order
abbrev pub periods : List Entry → List Period
periods history = flat_map (period_of history) (settled_runs history)

-- an hour of the period
abbrev pub is_hour_of : Period → Option CivilHour → Bool
is_hour_of p None = false
is_hour_of p (Some hour) = is_within p.level p.hour hour

-- the publications of a period
abbrev pub entries_in : Period → List Entry → List Entry
entries_in p history = filter (λ e. is_within p.level p.hour e.stamp) history

-- the file begins in the period
abbrev pub is_file_of : Period → MapFile → Bool
is_file_of p f = is_hour_of p f.image.head.first

-- the files that a period has
abbrev pub files_in : Period → List MapFile → List MapFile
files_in p files = filter (is_file_of p) files

-- exactly one file, and of this level
abbrev pub is_one_of_level : Level → List MapFile → Bool
is_one_of_level level (f ∷ []) = level_number f.image.head.level == level_number level
is_one_of_level level files = false

-- the first period whose files are not exactly one file of its level
abbrev pub foldable : State → Option Period
foldable s = find (λ p. not (is_one_of_level p.level (files_in p s.files))) (periods s.history)

-- the first period that has two or more files
abbrev pub shrinkable : State → Option Period
shrinkable s = find (λ p. nat_le 2 (length (files_in p s.files))) (periods s.history)

-- where the files of a period stand among all: the index of the first, and the index after the last
abbrev pub places_of : Period → List MapFile → ℕ × ℕ
places_of p files =
    (length (take_while (λ f. not (is_file_of p f)) files), length (take_while (λ f. not (is_file_of p f)) files) + length (files_in p files))

-- The settled shape.

-- the level of a run
abbrev pub run_level : List Entry → List Entry → Level
run_level history [] = Base
run_level history (e ∷ run) = settled_level history e.stamp

-- the images of runs that follow each other, each taken after the runs before it
abbrev pub run_images : List Rule → List Entry → List Entity → List (List Entry) → List Image
run_images rules history store [] = []
run_images rules history store (run ∷ runs) =
    run_image rules store (run_level history run) run ∷ run_images rules history (published store (lines_of run)) runs

-- the base, and over it an image for each settled run
abbrev pub shape : List Rule → List Line → List Entry → List Image
shape rules base history = base_image rules base ∷ run_images rules history (apply [] base) (settled_runs history)
