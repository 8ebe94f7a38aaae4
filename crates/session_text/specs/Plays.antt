-- What a script does when one thread plays it, line by line, and what is printed of that.
use Rattle.std.specs.Prelude.{ℕ, ◌+◌, List, [], ◌∷◌, length, map, filter, Bool, true, false}
use Rattle.live_model.specs.declared.objects.Line.{Line}
use Rattle.live_model.specs.declared.rules.Rule.{Rule}
use Rattle.script_text.specs.declared.steps.Step.{Step}
use Rattle.script_text.specs.declared.steps.What.{What}
use Rattle.script_text.specs.declared.steps.What.TheVariants as what
use Rattle.overlay_set.specs.Sets.{Entry}
use Rattle.overlay_set.specs.Periods.{shape}
use Rattle.overlay_set.specs.Machines.{Event, Publish, Take, Ask, Drop, Reply, Accepted, Late, HistoryFull, FilesFull, Rows, Machine, opened, limits_of_a_board, machine_after, replies}
use Rattle.session_text.specs.Sessions.{session_text}

-- the events of what lines do, from this line on, by one pass: a publication is one event, with the next change, under the number of its line; a
-- question takes the present set, asks it, and gives it back
abbrev pub events_from : ℕ → List What → List (List Line) → List Event
events_from line [] changes = []
events_from line (what.Publish stamp file ∷ rest) [] = []
events_from line (what.Publish stamp file ∷ rest) (change ∷ changes) = Publish 0 stamp line change ∷ events_from (line + 1) rest changes
events_from line (what.Ask query ∷ rest) changes = Take 0 ∷ Ask 0 query ∷ Drop 0 ∷ events_from (line + 1) rest changes

-- the events of a script; its lines are counted from 1
abbrev pub events_of : List Step → List (List Line) → List Event
events_of steps changes = events_from 1 (map (λ s. s.what) steps) changes

-- the reply to a line: to its publication, or the rows of its question
abbrev pub answers_a_line : Reply → Bool
answers_a_line (Accepted front) = true
answers_a_line (Late front last) = true
answers_a_line (HistoryFull front) = true
answers_a_line (FilesFull front) = true
answers_a_line (Rows front rows) = true
answers_a_line reply = false

module _ (rules : List Rule) (base : List Line) (steps : List Step) (changes : List (List Line)) where
  -- what the lines are answered, by a machine that begins with the base alone
  abbrev pub line_replies : List Reply
  line_replies = filter answers_a_line (replies limits_of_a_board rules base (opened rules base 1 1) (events_of steps changes))

  -- the publications that came in
  abbrev pub history_played : List Entry
  history_played = (machine_after limits_of_a_board rules base (opened rules base 1 1) (events_of steps changes)).now.history

  -- the replies, the history, and the files that it has in the end, when all that can be folded is folded
  abbrev pub played_text : List ℕ
  played_text = session_text line_replies history_played (shape rules base history_played)
