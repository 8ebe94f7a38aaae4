-- A machine that runs over its rules and base lines, and what events make of it.
use Rattle.std.specs.Prelude.{◌≡◌, ℕ, ◌<◌, ◌≤◌, List, [], ◌∷◌, ◌++◌, length, take, Option}
use Rattle.std.specs.List.{AllZip}
use Rattle.live_model.specs.declared.objects.Line.{Line}
use Rattle.live_model.specs.declared.queries.Query.{Query}
use Rattle.live_model.specs.declared.rows.Row.{Row}
use Rattle.live_model.specs.declared.rules.Rule.{Rule}
use Rattle.live_model.specs.Maps.{answer, rebuilt}
use Rattle.overlay_set.specs.Sets.{State, lines_of}
use Rattle.overlay_set.specs.Swaps.{FoldPlan}
use Rattle.overlay_set.specs.Machines.{Event, Publish, Plan, Commit, Take, Ask, Drop, Tell, Shrink, Reply, Rows, Machine, limits_of_a_board, opened, step, machine_after, replies}

-- the present state, the state that each pass holds, if any, and each worker's plan, if any, over rules and base lines
pub record Running : Type 0 where
  pub rules : List Rule
  pub base : List Line
  pub now : State
  pub held : List (Option State)
  pub plans : List (Option FoldPlan)

-- what runs of a machine over these rules and base lines: all but what its passes have seen
abbrev pub running : List Rule → List Line → Machine → Running
running rules base m = record { rules = rules; base = base; now = m.now; held = m.held; plans = m.plans }

-- a machine of which this runs
abbrev pub machine_of : Running → Machine
machine_of r = record { now = r.now; seen = []; held = r.held; plans = r.plans }

-- with this as the present state
abbrev pub with_now : Running → State → Running
with_now r s = record r { now = s }

-- at the beginning
abbrev pub begun : List Rule → List Line → ℕ → ℕ → Running
begun rules base passes workers = running rules base (opened rules base passes workers)

-- One event.

-- after an event
abbrev pub after_event : Running → Event → Running
after_event r event = running r.rules r.base (step limits_of_a_board r.rules r.base (machine_of r) event).0

-- what it is answered
abbrev pub answer_to : Running → Event → Reply
answer_to r event = (step limits_of_a_board r.rules r.base (machine_of r) event).1

-- an event led from one to the other, and was answered so
pub record IsStep (before : Running) (event : Event) (reply : Reply) (after : Running) : Type 0 where
  pub next : after ≡ after_event before event
  pub answered : reply ≡ answer_to before event

-- the passes and workers that an event names are there
abbrev pub IsNamed : Running → Event → Type 0
IsNamed r (Publish pass stamp tag lines) = pass < length r.held
IsNamed r (Plan worker) = worker < length r.plans
IsNamed r (Commit worker) = worker < length r.plans
IsNamed r (Take pass) = pass < length r.held
IsNamed r (Ask pass query) = pass < length r.held
IsNamed r (Drop pass) = pass < length r.held
IsNamed r (Tell from to) = (from < length r.held) × (to < length r.held)
IsNamed r Shrink = Unit {0}

-- Events in turn.

abbrev pub after_events : Running → List Event → Running
after_events r events = running r.rules r.base (machine_after limits_of_a_board r.rules r.base (machine_of r) events)

abbrev pub answers_to : Running → List Event → List Reply
answers_to r events = replies limits_of_a_board r.rules r.base (machine_of r) events

-- What passes have seen.

-- steers nothing else: neither what runs, nor a reply
abbrev pub SeenLaw : Type 0
SeenLaw = (rules : List Rule) (base : List Line) (m : Machine) (event : Event)
    → (after_event (running rules base m) event ≡ running rules base (step limits_of_a_board rules base m event).0)
    × (answer_to (running rules base m) event ≡ (step limits_of_a_board rules base m event).1)

-- and so for events in turn
abbrev pub SeenEventsLaw : Type 0
SeenEventsLaw = (rules : List Rule) (base : List Line) (m : Machine) (events : List Event)
    → (after_events (running rules base m) events ≡ running rules base (machine_after limits_of_a_board rules base m events))
    × (answers_to (running rules base m) events ≡ replies limits_of_a_board rules base m events)

-- What questions are answered.

-- where the event is a question and the reply has rows, they are those of the map made anew of the base and of as many publications as
-- the front counts
abbrev pub IsMadeAnew : Running → Event → Reply → Type 0
IsMadeAnew r event reply =
    (pass : ℕ) (query : Query) (front : ℕ) (rows : List Row) → event ≡ Ask pass query → reply ≡ Rows front rows
    → (front ≤ length r.now.history) × (rows ≡ answer r.rules query (rebuilt r.rules r.base (lines_of (take front r.now.history))))

-- so is each of these
abbrev pub AreMadeAnew : Running → List Event → List Reply → Type 0
AreMadeAnew r events replies = AllZip (IsMadeAnew r) events replies

-- Machines that took events in turn.

-- the events led from one to the other, and were answered so
pub record IsReplay (before : Running) (events : List Event) (answers : List Reply) (after : Running) : Type 0 where
  pub next : after ≡ after_events before events
  pub answered : answers ≡ answers_to before events
  pub anew : AreMadeAnew after events answers

-- an event led from one to the other, and its reply stands after the replies that were there before
pub record IsPlayed (before : Running) (event : Event) (after : Running) (earlier told : List Reply) : Type 0 where
  pub reply : Reply
  pub stepped : IsStep before event reply after
  pub anew : IsMadeAnew after event reply
  pub put : told ≡ earlier ++ reply ∷ []

-- events did, and their answers stand after the replies that were there before
pub record HasPlayed (before : Running) (events : List Event) (after : Running) (earlier told : List Reply) : Type 0 where
  pub answers : List Reply
  pub put : told ≡ earlier ++ answers
  pub played : IsReplay before events answers after

-- it played fewer events than there are, from the first on
pub record HasBegun (before : Running) (events : List Event) (after : Running) (earlier told : List Reply) : Type 0 where
  pub count : ℕ
  pub fewer : count < length events
  pub begun : HasPlayed before (take count events) after earlier told
