-- The laws of sets where it is a premise that the overlays of a history are overlays; and that they are, where the base makes a store
-- and all lines are good.
use Rattle.std.proofs.Common.{◌≡◌, List, [], ◌∷◌}
use Rattle.std.specs.List.{AllByRecursion}
use Rattle.live_model.specs.declared.objects.Entity.{Entity}
use Rattle.live_model.specs.declared.objects.Line.{Line}
use Rattle.live_model.specs.declared.rules.Rule.{Rule}
use Rattle.live_model.specs.Objects.{IsGoodLine}
use Rattle.live_model.specs.Stores.{IsStore, apply}
use Rattle.live_model.specs.Maps.{rebuilt}
use Rattle.live_model.specs.MapLaws.{IsOverlay, overlays}
use Rattle.map_laws.proofs.OverlayProof.{applied_store, overlay_law}
use Rattle.overlay_set.specs.Sets.{Entry, State, lines_of, shown}
use Rattle.overlay_set.specs.Standing.{Stands}
use Rattle.overlay_set.specs.Swaps.{Swap, applied, Takes}
use Rattle.overlay_set.specs.SetLaws.{AreGood}
use Rattle.overlay_set.specs.Machines.{Event, Machine, Limits, step, machine_after}
use Rattle.overlay_set.specs.MachineLaws.{IsGoodEvent, MachineStands}

-- the overlays of a history over its base are overlays
abbrev pub AreOverlays : List Rule → List Line → List Entry → Type 0
AreOverlays rules base history = AllByRecursion IsOverlay (overlays rules (apply [] base) (lines_of history))

-- a set stands after each swap that may come
abbrev pub SwapOverLaw : Type 0
SwapOverLaw = (rules : List Rule) (base : List Line) (s : State) (swap : Swap) → AreOverlays rules base s.history
    → Stands rules base s → Takes rules base s swap → Stands rules base (applied s swap)

-- a set that stands shows the map made anew
abbrev pub ShownOverLaw : Type 0
ShownOverLaw = (rules : List Rule) (base : List Line) (s : State) → IsStore (apply [] base) → AllByRecursion (AllByRecursion IsGoodLine) (lines_of s.history)
    → AreOverlays rules base s.history → Stands rules base s → shown s.files ≡ rebuilt rules base (lines_of s.history)

-- a machine stands after an event, and after every list of events
abbrev pub StepOverLaw : Type 0
StepOverLaw = (limits : Limits) (rules : List Rule) (base : List Line) → ((history : List Entry) → AreGood history → AreOverlays rules base history)
    → (m : Machine) (event : Event) → IsGoodEvent event → MachineStands rules base m → MachineStands rules base (step limits rules base m event).0

abbrev pub EventsOverLaw : Type 0
EventsOverLaw = (limits : Limits) (rules : List Rule) (base : List Line) → ((history : List Entry) → AreGood history → AreOverlays rules base history)
    → (m : Machine) (events : List Event) → AllByRecursion IsGoodEvent events → MachineStands rules base m → MachineStands rules base (machine_after limits rules base m events)

-- over a store, the overlays of good lines are overlays
overlays_good : (rules : List Rule) (store : List Entity) (history : List (List Line)) → IsStore store → AllByRecursion (AllByRecursion IsGoodLine) history → AllByRecursion IsOverlay (overlays rules store history)
overlays_good rules store [] is good = tt
overlays_good rules store (lines ∷ history) is good =
    ((overlay_law rules store lines is good.0).0, overlays_good rules (apply store lines) history (applied_store store lines is good.0) good.1)

pub are_overlays : (rules : List Rule) (base : List Line) (history : List Entry) → IsStore (apply [] base) → AreGood history → AreOverlays rules base history
are_overlays rules base history store good = overlays_good rules (apply [] base) (lines_of history) store good
