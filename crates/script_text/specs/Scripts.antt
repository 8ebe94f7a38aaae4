-- Scripts: who publishes which change under which hour, and who asks what, line by line.
use Rattle.std.specs.Prelude.{◌≡◌, ◌≢◌, ◌≤◌, ℕ, List, [], ◌∷◌, length, drop, codes, Bool, true, false, not, Option, Some, None, if◌then◌else◌, is_some, find, bytes_eq}
use Rattle.std.specs.Option.{option_map}
use Rattle.std.specs.Str.{is_utf8}
use Rattle.text_pieces.specs.Lines.{fields_from}
use Rattle.text_pieces.specs.Numbers.{number_of}
use Rattle.text_pieces.specs.Escapes.{text_of}
use Rattle.live_model.specs.QueryTexts.{IsQuery, query_from}
use Rattle.stamp_core.specs.Hours.{CivilHour, IsCivilHour}
use Rattle.hour_words.specs.HourWords.{hour_of}
use Rattle.line_texts.specs.Forms.{Form}
use Rattle.script_text.specs.declared.steps.Step.{Step}
use Rattle.script_text.specs.declared.steps.What.{What}
use Rattle.script_text.specs.declared.steps.What.TheVariants.{Publish, Ask}
use Rattle.script_text.specs.declared.breaks.ScriptKind.{ScriptKind}
use Rattle.script_text.specs.declared.breaks.ScriptKind.TheVariants.{NotUtf8, BadLane, BadVerb, BadStamp, BadName, BadQuery, OverLimit}
use Rattle.script_text.specs.declared.fields.Verb.{Verb}
use Rattle.script_text.specs.declared.fields.Verb.TheVariants.{Publishing, Asking}

-- Fields, each with its place. One that is missing is an empty text at the end of the line.

-- where the first of some fields stands
abbrev pub first_place : ℕ → List (ℕ × List ℕ) → ℕ
first_place end [] = end
first_place end (field ∷ fields) = field.0

-- what it holds
abbrev pub first_text : List (ℕ × List ℕ) → List ℕ
first_text [] = []
first_text (field ∷ fields) = field.1

-- those after it
abbrev pub others : List (ℕ × List ℕ) → List (ℕ × List ℕ)
others [] = []
others (field ∷ fields) = fields

-- no field is left
abbrev pub none_left : List (ℕ × List ℕ) → Bool
none_left [] = true
none_left fields = false

-- What fields spell.

-- one digit from 0 to 7
unfoldable pub lane_of : List ℕ → Option ℕ
lane_of field = number_of 1 7 field

-- `P` publishes, and `Q` asks
unfoldable pub verb_of : List ℕ → Option Verb
verb_of field = if bytes_eq field (codes "P") then Some Publishing else if bytes_eq field (codes "Q") then Some Asking else None

-- an escaped text that is not empty
abbrev pub name_of : List ℕ → Option (List ℕ)
name_of [] = None
name_of (c ∷ cs) = text_of (c ∷ cs)

-- a publication under an hour of a file, where both are there and nothing is left over
abbrev pub publication_from : Option CivilHour → Option (List ℕ) → Bool → Option What
publication_from (Some stamp) (Some file) true = Some (Publish stamp file)
publication_from stamp file alone = None

-- `STAMP FILE` after `P`
abbrev pub publication_in : List (ℕ × List ℕ) → Option What
publication_in fields = publication_from (hour_of (first_text fields)) (name_of (first_text (others fields))) (none_left (others (others fields)))

-- what a verb and the fields after it spell; a question is all of them
abbrev pub what_in : Option Verb → List (ℕ × List ℕ) → Option What
what_in None fields = None
what_in (Some Publishing) fields = publication_in fields
what_in (Some Asking) fields = option_map Ask (query_from fields)

-- a step, where a lane and what it does are there
abbrev pub step_from : Option ℕ → Option What → Option Step
step_from (Some lane) (Some what) = Some (record { lane = lane; what = what })
step_from lane what = None

-- the step that fields spell: a lane, a verb, and what the verb takes
abbrev pub step_in : List (ℕ × List ℕ) → Option Step
step_in fields = step_from (lane_of (first_text fields)) (what_in (verb_of (first_text (others fields))) (others (others fields)))

-- the step that a whole script line spells
unfoldable pub step_of : List ℕ → Option Step
step_of row = if is_utf8 row then step_in (fields_from 0 row) else None

-- The tests of a line, in their order.

-- what is tested at a place of the line, and how the line breaks where that fails
pub record StepTest : Type 0 where
  pub at : ℕ
  pub kind : ScriptKind
  pub passes : Bool

-- a test at a place of the line
abbrev pub step_test : ℕ → ScriptKind → Bool → StepTest
step_test at kind passes = record { at = at; kind = kind; passes = passes }

-- after the verb: stamp, name, and no further field; or a question
abbrev pub tests_after : Option Verb → ℕ → List (ℕ × List ℕ) → List StepTest
tests_after None end fields = []
tests_after (Some Publishing) end fields =
    step_test (first_place end fields) BadStamp (is_some (hour_of (first_text fields)))
    ∷ step_test (first_place end (others fields)) BadName (is_some (name_of (first_text (others fields))))
    ∷ step_test (first_place end (others (others fields))) BadName (none_left (others (others fields))) ∷ []
tests_after (Some Asking) end fields = step_test (first_place end fields) BadQuery (is_some (query_from fields)) ∷ []

-- of the fields of a line: its lane, its verb, and the rest
abbrev pub field_tests : ℕ → List (ℕ × List ℕ) → List StepTest
field_tests end fields =
    step_test (first_place end fields) BadLane (is_some (lane_of (first_text fields)))
    ∷ step_test (first_place end (others fields)) BadVerb (is_some (verb_of (first_text (others fields))))
    ∷ tests_after (verb_of (first_text (others fields))) end (others (others fields))

-- of a line: that it is UTF-8, and its fields
abbrev pub step_tests : List ℕ → List StepTest
step_tests row = step_test 0 NotUtf8 (is_utf8 row) ∷ field_tests (length row) (fields_from 0 row)

-- where and how a line breaks of which these are the tests: the first that fails
abbrev pub first_failure : List StepTest → Option (ℕ × ScriptKind)
first_failure tests = option_map (λ t. (t.at, t.kind)) (find (λ t. not t.passes) tests)

-- where a line breaks, counted from its first byte, and how; none where every test passes
unfoldable pub step_break : List ℕ → Option (ℕ × ScriptKind)
step_break row = first_failure (step_tests row)

-- a script: up to 100,000 such lines
abbrev pub script_form : Form Step ScriptKind
script_form = record { spells = step_of; breaks = step_break; most = 100000; over = OverLimit }

-- What is known of a step that a line spells: its lane is 0 to 7, its hour is one of the calendar, its file has a name, and its
-- question is good.
abbrev pub IsWhat : What → Type 0
IsWhat (Publish stamp file) = IsCivilHour stamp × (file ≢ [])
IsWhat (Ask query) = IsQuery query

pub record IsStep (step : Step) : Type 0 where
  pub lane : step.lane ≤ 7
  pub what : IsWhat step.what

-- the name of a kind of break
abbrev pub script_kind_name : ScriptKind → List ℕ
script_kind_name NotUtf8 = codes "NotUtf8"
script_kind_name BadLane = codes "BadLane"
script_kind_name BadVerb = codes "BadVerb"
script_kind_name BadStamp = codes "BadStamp"
script_kind_name BadName = codes "BadName"
script_kind_name BadQuery = codes "BadQuery"
script_kind_name OverLimit = codes "OverLimit"
