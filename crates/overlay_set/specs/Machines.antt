-- The machine over every list of events: what each event answers, and the state after it.
use Rattle.std.specs.Prelude.{ℕ, ◌+◌, List, [], ◌∷◌, length, Bool, false, ◌&&◌, nat_le, not, Option, Some, None, if◌then◌else◌, is_none, slice_get, slice_set, unwrap_or, replicate}
use Rattle.std.specs.Option.{option_map, option_or}
use Rattle.live_model.specs.declared.levels.Level.TheVariants.{Hour}
use Rattle.live_model.specs.declared.objects.Line.{Line}
use Rattle.live_model.specs.declared.rules.Rule.{Rule}
use Rattle.live_model.specs.declared.queries.Query.{Query}
use Rattle.live_model.specs.declared.rows.Row.{Row}
use Rattle.live_model.specs.Stores.{apply}
use Rattle.live_model.specs.Maps.{published, answer}
use Rattle.stamp_core.specs.Hours.{CivilHour, number_of}
use Rattle.overlay_set.specs.Sets.{Entry, State, images_of, lines_of, stamps_of, run_image, age, last_in, opening, shown}
use Rattle.overlay_set.specs.Periods.{Period, foldable, shrinkable}
use Rattle.overlay_set.specs.Swaps.{FoldPlan, plan_of, fold_image, Add, Replace, applied, missing}

-- what happens at a machine; passes and workers are known by their numbers
pub data Event : Type 0 where
  Publish : (pass : ℕ) → CivilHour → (tag : ℕ) → List Line → Event
  Plan : (worker : ℕ) → Event
  Commit : (worker : ℕ) → Event
  Take : (pass : ℕ) → Event
  Ask : (pass : ℕ) → Query → Event
  Drop : (pass : ℕ) → Event
  Tell : (from to : ℕ) → Event
  Shrink : Event

-- what an event is answered
pub data Reply : Type 0 where
  Accepted : (front : ℕ) → Reply
  Late : (front : ℕ) → CivilHour → Reply
  HistoryFull : (front : ℕ) → Reply
  FilesFull : (front : ℕ) → Reply
  Rows : (front : ℕ) → List Row → Reply
  Planned : Bool → Reply
  Folded : Reply
  Overtaken : (file : ℕ) → Reply
  NothingPlanned : Reply
  NotTaken : Reply
  Done : Reply

-- the present state, the state that each pass has seen, the one that it holds, if any, and each worker's plan, if any
pub record Machine : Type 0 where
  pub now : State
  pub seen : List State
  pub held : List (Option State)
  pub plans : List (Option FoldPlan)

-- at the beginning the base alone is there, each pass has seen that, and nobody holds anything
abbrev pub opened : List Rule → List Line → ℕ → ℕ → Machine
opened rules base passes workers =
    record { now = opening rules base; seen = replicate passes (opening rules base); held = replicate passes None; plans = replicate workers None }

-- what stands at a place of a list, where anything does
abbrev pub at_place : {A : Type 0} → List (Option A) → ℕ → Option A
at_place xs n = unwrap_or (slice_get xs n) None

-- how much a set may have
pub record Limits : Type 0 where
  pub entries : ℕ
  pub files : ℕ

-- 65,536 publications and 1,024 files
abbrev pub limits_of_a_board : Limits
limits_of_a_board = record { entries = 65536; files = 1024 }

-- the fold of a plan in place of its files
abbrev pub with_fold : FoldPlan → State → State
with_fold plan s = applied s (Replace plan (fold_image plan.level (images_of plan.files)))

-- the fold of the files of a period in their place, if there is a period
abbrev pub with_fold_in : Option Period → State → State
with_fold_in None s = s
with_fold_in (Some p) s = with_fold (plan_of p s.files) s

-- the later of two states of one machine
abbrev pub later_of : State → State → State
later_of a b = if nat_le (age a) (age b) then b else a

-- where the last stamp is not before this one
abbrev pub late_after : Option CivilHour → ℕ → CivilHour → Option Reply
late_after None front stamp = None
late_after (Some last) front stamp = if nat_le (number_of stamp) (number_of last) then Some (Late front last) else None

module _ (limits : Limits) (rules : List Rule) (base : List Line) where
  -- there is no room for a file
  abbrev pub is_full : State → Bool
  is_full s = nat_le limits.files (length s.files)

  -- the first cause for which a publication is refused
  abbrev pub refused : State → CivilHour → Option Reply
  refused s stamp =
      option_or (late_after (last_in (stamps_of s.history)) (length s.history) stamp)
      (if nat_le limits.entries (length s.history) then Some (HistoryFull (length s.history))
      else if is_full s && is_none (shrinkable s) then Some (FilesFull (length s.history)) else None)

  -- where there is no room for a file, the first run that can be shrunk is folded
  abbrev pub with_room : State → State
  with_room s = if is_full s then with_fold_in (shrinkable s) s else s

  -- the publication, and the file of its overlay
  abbrev pub with_entry : State → Entry → State
  with_entry s entry = applied s (Add entry (run_image rules (published (apply [] base) (lines_of s.history)) Hour (entry ∷ [])))

  -- a publication that is not refused comes in
  abbrev pub published_in : Option Reply → State → Entry → State × Reply
  published_in (Some refusal) s entry = (s, refusal)
  published_in None s entry = (with_entry (with_room s) entry, Accepted (length s.history + 1))

  -- a publication, refused or come in
  abbrev pub publish : State → Entry → State × Reply
  publish s entry = published_in (refused s entry.stamp) s entry

  -- the fold of what can be shrunk
  abbrev pub shrink : Option Period → State → State × Reply
  shrink None s = (s, Planned false)
  shrink (Some p) s = (with_fold (plan_of p s.files) s, Folded)

  -- the fold, unless a file of the plan is no longer there
  abbrev pub commit_over : Option ℕ → FoldPlan → State → State × Reply
  commit_over (Some file) plan s = (s, Overtaken file)
  commit_over None plan s = (with_fold plan s, Folded)

  -- the fold of the plan that a worker holds
  abbrev pub commit : Option FoldPlan → State → State × Reply
  commit None s = (s, NothingPlanned)
  commit (Some plan) s = commit_over (missing plan s) plan s

  -- the rows of a question over the files that a pass holds
  abbrev pub asked : Option State → Query → Reply
  asked None query = NotTaken
  asked (Some s) query = Rows (length s.history) (answer rules query (shown s.files))

  -- the machine and the reply after an event
  abbrev pub step : Machine → Event → Machine × Reply
  step m (Publish pass stamp tag lines) =
      let done = publish m.now (record { stamp = stamp; tag = tag; lines = lines }) in
      (record m { now = done.0; seen = slice_set m.seen pass done.0 }, done.1)
  step m (Plan worker) =
      (record m { plans = slice_set m.plans worker (option_map (λ p. plan_of p m.now.files) (foldable m.now)) }, Planned (not (is_none (foldable m.now))))
  step m (Commit worker) =
      let done = commit (at_place m.plans worker) m.now in
      (record m { now = done.0; plans = slice_set m.plans worker None }, done.1)
  step m (Take pass) = (record m { seen = slice_set m.seen pass m.now; held = slice_set m.held pass (Some m.now) }, Done)
  step m (Ask pass query) = (m, asked (at_place m.held pass) query)
  step m (Drop pass) = (record m { held = slice_set m.held pass None }, Done)
  step m (Tell from to) =
      (record m { seen = slice_set m.seen to (later_of (unwrap_or (slice_get m.seen to) m.now) (unwrap_or (slice_get m.seen from) m.now)) }, Done)
  step m Shrink =
      let done = shrink (shrinkable m.now) m.now in
      (record m { now = done.0 }, done.1)

  -- the machine after events in turn
  abbrev pub machine_after : Machine → List Event → Machine
  machine_after m [] = m
  machine_after m (event ∷ events) = machine_after (step m event).0 events

  -- what events in turn are answered
  abbrev pub replies : Machine → List Event → List Reply
  replies m [] = []
  replies m (event ∷ events) = (step m event).1 ∷ replies (step m event).0 events
