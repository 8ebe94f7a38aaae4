-- The words that the program takes: a verb, and then what this verb takes.
use Rattle.std.specs.Prelude.{◌≡◌, ◌≢◌, List, ℕ, [], ◌∷◌, ◌++◌, Option, Some, None, codes, if◌then◌else◌}
use Rattle.std.specs.Option.{option_and_then, option_map}
use Rattle.std.specs.Str.{bytes_eq}
use Rattle.live_model.specs.declared.levels.Level.{Level}
use Rattle.live_model.specs.declared.levels.Level.TheVariants as level
use Rattle.live_model.specs.declared.points.Rect.{Rect}
use Rattle.live_model.specs.declared.queries.Query.{Query}
use Rattle.live_model.specs.Points.{rect_of}
use Rattle.live_model.specs.QueryTexts.{query_of}
use Rattle.stamp_core.specs.Hours.{CivilHour}
use Rattle.hour_words.specs.HourWords.{hour_of}
use Rattle.run_model.specs.declared.request.Period.{Period}
use Rattle.run_model.specs.declared.request.Period.TheVariants.{Day, Month}
use Rattle.run_model.specs.declared.request.Request.{Request}
use Rattle.run_model.specs.declared.request.Request.TheVariants as request
use Rattle.run_model.specs.declared.request.Verb.{Verb}
use Rattle.run_model.specs.declared.request.Verb.TheVariants as verb

-- what is asked for, with the names of files as they were given
pub data Asked : Type 0 where
  nodes : Rect → (base : List ℕ) → Asked
  dump : (base : List ℕ) → Asked
  build : (rules base output : List ℕ) → Asked
  change_map : (rules base : List ℕ) → (hour : CivilHour) → (output : List ℕ) → (changes : List (List ℕ)) → Asked
  fold_files : Period → (output : List ℕ) → (files : List (List ℕ)) → Asked
  ask_files : Query → (files : List (List ℕ)) → Asked
  check : (file : List ℕ) → Asked
  replay_script : (rules base script : List ℕ) → Asked

-- the verb of this name
abbrev pub verb_of : List ℕ → Option Verb
verb_of word =
    if bytes_eq word (codes "nodes") then Some verb.Nodes
    else if bytes_eq word (codes "dump") then Some verb.Dump
    else if bytes_eq word (codes "build") then Some verb.Build
    else if bytes_eq word (codes "change") then Some verb.Change
    else if bytes_eq word (codes "fold") then Some verb.Fold
    else if bytes_eq word (codes "ask") then Some verb.Ask
    else if bytes_eq word (codes "check") then Some verb.Check
    else if bytes_eq word (codes "replay") then Some verb.Replay
    else None

-- there is a change at least, and the stamp names an hour
abbrev pub asked_change : (rules base stamp output : List ℕ) → List (List ℕ) → Option Asked
asked_change rules base stamp output [] = None
asked_change rules base stamp output (change ∷ changes) = option_map (λ hour. change_map rules base hour output (change ∷ changes)) (hour_of stamp)

-- the level of this name that files may become
abbrev pub period_of : List ℕ → Option Period
period_of word = if bytes_eq word (codes "day") then Some Day else if bytes_eq word (codes "month") then Some Month else None

-- there is a file at least, and the level is a day or a month
abbrev pub asked_fold : (level output : List ℕ) → List (List ℕ) → Option Asked
asked_fold level output [] = None
asked_fold level output (file ∷ files) = option_map (λ period. fold_files period output (file ∷ files)) (period_of level)

-- there is a file at least, and the query spells a question
abbrev pub asked_query : (query : List ℕ) → List (List ℕ) → Option Asked
asked_query query [] = None
asked_query query (file ∷ files) = option_map (λ q. ask_files q (file ∷ files)) (query_of query)

-- `nodes RECT BASE`, `dump BASE`, `build RULES BASE OUT`, `change RULES BASE STAMP OUT CHANGE ..`, `fold LEVEL OUT FILE ..`,
-- `ask QUERY FILE ..`, `check FILE` and `replay RULES BASE SCRIPT`, by the words after the verb
abbrev pub asked_with : Verb → List (List ℕ) → Option Asked
asked_with verb.Nodes (rect ∷ base ∷ []) = option_map (λ r. nodes r base) (rect_of rect)
asked_with verb.Dump (base ∷ []) = Some (dump base)
asked_with verb.Build (rules ∷ base ∷ output ∷ []) = Some (build rules base output)
asked_with verb.Change (rules ∷ base ∷ stamp ∷ output ∷ changes) = asked_change rules base stamp output changes
asked_with verb.Fold (level ∷ output ∷ files) = asked_fold level output files
asked_with verb.Ask (query ∷ files) = asked_query query files
asked_with verb.Check (file ∷ []) = Some (check file)
asked_with verb.Replay (rules ∷ base ∷ script ∷ []) = Some (replay_script rules base script)
asked_with verb words = None

abbrev pub asked_by : List (List ℕ) → Option Asked
asked_by [] = None
asked_by (word ∷ words) = option_and_then (λ verb. asked_with verb words) (verb_of word)

-- what a request that was read asks for
abbrev pub asked : Request → Asked
asked (request.Nodes rect base) = nodes rect base.now
asked (request.Dump base) = dump base.now
asked (request.Build rules base output) = build rules.now base.now output.now
asked (request.Change rules base hour output earlier last) = change_map rules.now base.now hour output.now (earlier.now ++ last.now ∷ [])
asked (request.Fold period output files) = fold_files period output.now files.now
asked (request.Ask query files) = ask_files query files.now
asked (request.Check file) = check file.now
asked (request.Replay rules base script) = replay_script rules.now base.now script.now

-- the first word is `ask`, whose question takes memory as it is read
abbrev pub BeginsQuestion : List (List ℕ) → Type 0
BeginsQuestion [] = ⊥
BeginsQuestion (word ∷ words) = verb_of word ≡ Some verb.Ask

-- the level of a file of this period
abbrev pub level_of : Period → Level
level_of Day = level.Day
level_of Month = level.Month

-- where files are to become one, there is one at least; nothing is asked of other requests
abbrev pub NamesFiles : Request → Type 0
NamesFiles (request.Fold period output files) = files.now ≢ []
NamesFiles r = Unit {0}
