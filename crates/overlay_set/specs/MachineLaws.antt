-- What holds of a machine after every list of events.
use Rattle.std.specs.Prelude.{◌≡◌, ℕ, List, [], length, Option, Some, None, slice_get}
use mathlib.Core.List.{IsPrefix}
use Rattle.std.specs.List.{AllByRecursion}
use Rattle.live_model.specs.declared.objects.Line.{Line}
use Rattle.live_model.specs.declared.rules.Rule.{Rule}
use Rattle.live_model.specs.Objects.{IsGoodLine}
use Rattle.live_model.specs.Stores.{IsStore, apply}
use Rattle.live_model.specs.declared.queries.Query.{Query}
use Rattle.live_model.specs.Maps.{answer, rebuilt}
use Rattle.overlay_set.specs.Sets.{State, lines_of, shown}
use Rattle.overlay_set.specs.Standing.{Stands}
use Rattle.overlay_set.specs.Swaps.{FoldPlan, IsLater, Fits}
use Rattle.overlay_set.specs.SetLaws.{AreGood}
use Rattle.overlay_set.specs.Machines.{Event, Publish, Ask, Rows, Machine, Limits, at_place, opened, step, machine_after}

-- it stands, and the present state is it or a later one
abbrev pub IsSeen : List Rule → List Line → State → State → Type 0
IsSeen rules base now s = Stands rules base s × IsLater s now

-- what is held, if anything, was seen so
abbrev pub IsHeld : List Rule → List Line → State → Option State → Type 0
IsHeld rules base now None = Unit {0}
IsHeld rules base now (Some s) = IsSeen rules base now s

-- the plan, if there is one, fits
abbrev pub PlanFits : State → Option FoldPlan → Type 0
PlanFits now None = Unit {0}
PlanFits now (Some plan) = Fits plan now

-- the lines of an event that publishes are good
abbrev pub IsGoodEvent : Event → Type 0
IsGoodEvent (Publish pass stamp tag lines) = AllByRecursion IsGoodLine lines
IsGoodEvent event = Unit {0}

-- the set stands; what passes have seen and hold came before it; each worker's plan fits it
pub record MachineStands (rules : List Rule) (base : List Line) (m : Machine) : Type 0 where
  pub stands : Stands rules base m.now
  pub good : AreGood m.now.history
  pub seen_before : AllByRecursion (IsSeen rules base m.now) m.seen
  pub held_before : AllByRecursion (IsHeld rules base m.now) m.held
  pub plans_fit : AllByRecursion (PlanFits m.now) m.plans

-- over a base that makes a store, a machine stands after each good event
abbrev pub StepLaw : Type 0
StepLaw = (limits : Limits) (rules : List Rule) (base : List Line) → IsStore (apply [] base)
    → (m : Machine) (event : Event) → IsGoodEvent event → MachineStands rules base m → MachineStands rules base (step limits rules base m event).0

-- a machine that has just begun stands
abbrev pub OpenedLaw : Type 0
OpenedLaw = (rules : List Rule) (base : List Line) (passes workers : ℕ) → MachineStands rules base (opened rules base passes workers)

-- so it stands after every list of good events
abbrev pub EventsLaw : Type 0
EventsLaw = (limits : Limits) (rules : List Rule) (base : List Line) → IsStore (apply [] base)
    → (m : Machine) (events : List Event) → AllByRecursion IsGoodEvent events → MachineStands rules base m → MachineStands rules base (machine_after limits rules base m events)

-- What passes are answered.

-- the present history begins with what a pass has seen, and so with what it takes
abbrev pub SeenLaw : Type 0
SeenLaw = (rules : List Rule) (base : List Line) (m : Machine) (pass : ℕ) (s : State) → MachineStands rules base m → slice_get m.seen pass ≡ Some s → IsPrefix s.history m.now.history

-- a question has the answer of the map made anew of the base and the history that the pass holds, with which the present history begins
abbrev pub AskLaw : Type 0
AskLaw = (limits : Limits) (rules : List Rule) (base : List Line) → IsStore (apply [] base)
    → (m : Machine) (pass : ℕ) (query : Query) (s : State) → MachineStands rules base m → at_place m.held pass ≡ Some s
    → IsPrefix s.history m.now.history × ((step limits rules base m (Ask pass query)).1 ≡ Rows (length s.history) (answer rules query (rebuilt rules base (lines_of s.history))))

-- it publishes nothing
abbrev pub IsNoPublish : Event → Type 0
IsNoPublish (Publish pass stamp tag lines) = ⊥
IsNoPublish event = Unit {0}

-- an event that publishes nothing leaves the history, and every answer over the present set
abbrev pub StayLaw : Type 0
StayLaw = (limits : Limits) (rules : List Rule) (base : List Line) → IsStore (apply [] base) → (m : Machine) (event : Event) → IsNoPublish event → MachineStands rules base m
    → ((step limits rules base m event).0.now.history ≡ m.now.history)
    × ((query : Query) → answer rules query (shown (step limits rules base m event).0.now.files) ≡ answer rules query (shown m.now.files))
