-- Lines of a script that a machine plays in turn.
use Rattle.std.specs.Prelude.{◌≡◌, ℕ, ◌+◌, List, [], ◌∷◌, ◌++◌, length, filter, drop}
use Rattle.live_model.specs.declared.objects.Line.{Line}
use Rattle.script_text.specs.declared.steps.What.{What}
use Rattle.session_text.specs.Plays.{answers_a_line, events_from}
use Rattle.session_text.specs.Sessions.{replies_text}
use Rattle.live_core.specs.Running.{Running, after_events, answers_to}
use Rattle.live_session.specs.Scripts.{publishing}

-- one pass and one worker
pub record IsAlone (r : Running) : Type 0 where
  pub pass : length r.held ≡ 1
  pub worker : length r.plans ≡ 1

-- what lines from this one on are answered, by a machine
abbrev pub lines_text : ℕ → Running → List What → List (List Line) → List ℕ
lines_text line r whats changes = replies_text line (filter answers_a_line (answers_to r (events_from line whats changes)))

-- a machine played a line, with the changes from an index on, and put what it was answered; the changes that are left begin at another index
pub record IsLinePlayed (before : Running) (line : ℕ) (what : What) (changes : List (List Line)) (used : ℕ) (out : List ℕ) (after : Running) (put : List ℕ) (left : ℕ) : Type 0 where
  pub count : left ≡ used + length (publishing (what ∷ []))
  pub machine : (rest : List What) → after_events before (events_from line (what ∷ rest) (drop used changes)) ≡ after_events after (events_from (line + 1) rest (drop left changes))
  pub text : (rest : List What) → out ++ lines_text line before (what ∷ rest) (drop used changes) ≡ put ++ lines_text (line + 1) after rest (drop left changes)
