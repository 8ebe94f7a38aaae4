-- What map files hold, as their bytes tell.
use Rattle.std.specs.Prelude.{◌==◌, ℕ, List, [], ◌∷◌, map, sum, if◌then◌else◌, Option, Some, None, unwrap_or}
use Rattle.std.specs.List.{last_or}
use Rattle.std.specs.Option.{option_and_then}
use Rattle.live_model.specs.declared.levels.Level.{Level}
use Rattle.live_model.specs.declared.levels.Level.TheVariants.{Base, Hour, Day, Month}
use Rattle.live_model.specs.declared.queries.Query.{Query}
use Rattle.live_model.specs.declared.rules.Rule.{Rule}
use Rattle.live_model.specs.Maps.{Overlay}
use Rattle.stamp_core.specs.declared.head.Head.{Head}
use Rattle.stamp_core.specs.Hours.{CivilHour}
use Rattle.file_grammar.specs.Files.{FileParts, HeadNumbers, rules_in}
use Rattle.file_grammar.specs.Sections.{object_of}
use Rattle.file_order.specs.Runs.{Placed}
use Rattle.hour_words.specs.HourWords.{hour_numbered}
use Rattle.obf_reader.specs.Overlays.{parts_read, records_of}
use Rattle.obf_reader.specs.Spread.{read_file}
use Rattle.query_merge.specs.Questions.{due_in}

-- Heads.

-- the level that has this number
abbrev pub level_numbered : ℕ → Level
level_numbered n = if n == 0 then Base else if n == 1 then Hour else if n == 2 then Day else Month

-- the hour that has this number; 0 stands for none
abbrev pub hour_at : ℕ → Option CivilHour
hour_at n = if n == 0 then None else Some (hour_numbered n)

-- the head that has these numbers
abbrev pub head_numbered : HeadNumbers → Head
head_numbered n = record { level = level_numbered n.level; first = hour_at n.first; last = hour_at n.last }

-- Files.

-- what a map file holds: what it covers, its rules, and what it lays over others, which are the objects that it marks and its records
-- in order
pub record MapFile : Type 0 where
  pub head : Head
  pub rules : List Rule
  pub overlay : Overlay

-- the head of these parts; a base where there are none
abbrev pub head_held : Option FileParts → Head
head_held None = record { level = Base; first = None; last = None }
head_held (Some parts) = head_numbered parts.head.value

-- their rules
abbrev pub rules_held : Option FileParts → List Rule
rules_held None = []
rules_held (Some parts) = unwrap_or (rules_in parts.rules.value) []

-- their marks, by their ordinals
abbrev pub marks_held : Option FileParts → List ℕ
marks_held None = []
marks_held (Some parts) = parts.marks.value

-- what these parts hold; a file of good form always has its parts
abbrev pub held_by : Option FileParts → MapFile
held_by parts = record {
  head = head_held parts;
  rules = rules_held parts;
  overlay = record { marks = map object_of (marks_held parts); records = records_of parts };
}

-- the parts of the map file that the bytes are
unfoldable pub parts_in : List ℕ → Option FileParts
parts_in bytes = parts_read (read_file bytes)

-- the map file that the bytes are
abbrev pub map_file_in : List ℕ → MapFile
map_file_in bytes = held_by (parts_in bytes)

-- the map files that the texts are
abbrev pub map_files_in : List (List ℕ) → List MapFile
map_files_in texts = map map_file_in texts

-- what the place of a map file among others depends on
abbrev pub placed_in : MapFile → Placed
placed_in file = record { head = file.head; rules = file.rules }

-- what map files lay over others, one after another
abbrev pub overlays_in : List MapFile → List Overlay
overlays_in files = map (λ f. f.overlay) files

-- One file in place of several.

-- the first hour of the first file
abbrev pub first_hour : List MapFile → Option CivilHour
first_hour [] = None
first_hour (file ∷ files) = file.head.first

-- the last hour of the last
abbrev pub last_hour : List MapFile → Option CivilHour
last_hour files = option_and_then (λ f. f.head.last) (last_or None files)

-- the rules of the first, which are those of all where they become one
abbrev pub first_rules : List MapFile → List Rule
first_rules [] = []
first_rules (file ∷ files) = file.rules

-- of this level, from the first hour to the last
abbrev pub fold_head : Level → List MapFile → Head
fold_head level files = record { level = level; first = first_hour files; last = last_hour files }

-- Questions.

-- how many blocks of the map files that the texts are are due to a question
abbrev pub blocks_due : Query → List (List ℕ) → ℕ
blocks_due query texts = sum (map (λ text. due_in query (parts_in text)) texts)
