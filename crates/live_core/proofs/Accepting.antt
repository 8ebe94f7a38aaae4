-- A publication that came in.
use Rattle.std.proofs.Common.{◌≡◌, ℕ, ◌+◌, List, [], ◌∷◌, ◌++◌, length, Option, None, sym, ap, ap₂, subst, ◌∙◌, arith}
use Rattle.std.specs.List.{AllByRecursion}
use Rattle.std.proofs.lemmas.List.{length-append}
use Rattle.live_model.specs.declared.objects.Entity.{Entity}
use Rattle.live_model.specs.declared.objects.Line.{Line}
use Rattle.live_model.specs.declared.rules.Rule.{Rule}
use Rattle.live_model.specs.declared.levels.Level.TheVariants.{Hour}
use Rattle.live_model.specs.Ids.{Id}
use Rattle.live_model.specs.Maps.{published}
use Rattle.live_model.specs.Objects.{IsGoodLine}
use Rattle.live_model.specs.Stores.{apply}
use Rattle.overlay_set.specs.Sets.{Entry, Image, State, lines_of, run_image}
use Rattle.overlay_set.specs.Standing.{Stands}
use Rattle.overlay_set.specs.Swaps.{FoldPlan, Add, Takes, applied}
use Rattle.overlay_set.specs.Machines.{Accepted, Publish, Reply, limits_of_a_board, publish, refused, with_entry, with_room}
use Rattle.overlay_set.specs.MachineLaws.{MachineStands}
use Rattle.published_set.specs.Sets.{PublishedSet, rules_of}
use Rattle.live_core.specs.Running.{Running, after_event, machine_of, with_now}
use Rattle.live_core.specs.Kept.{IsKept, running_over}
use Rattle.set_events.proofs.Publishing.{accepted, may_come, room_keeps, wanted}
use Rattle.set_events.proofs.Preparing.{rules_held}
use Rattle.live_core.proofs.Keeping.{running_moved, stands_after}

-- Before it comes in.

-- what is known of a publication whose image is made
pub record IsReady (set : PublishedSet) (held : List (Option PublishedSet)) (plans : List (Option FoldPlan)) (store : List Entity) (index : List (ℕ × List Id)) (entry : Entry) (image : Image) : Type 0 where
  pub kept : IsKept (running_over set held plans) store index
  pub wanted : refused limits_of_a_board (rules_of set) set.base set.state entry.stamp ≡ None
  pub good : AllByRecursion IsGoodLine entry.lines
  pub made : image ≡ run_image (rules_of set) (published (apply [] set.base) (lines_of set.state.history)) Hour (entry ∷ [])

-- it may come in after the fold that makes room
pub ready_takes : (set : PublishedSet) (held : List (Option PublishedSet)) (plans : List (Option FoldPlan)) (store : List Entity) (index : List (ℕ × List Id)) (entry : Entry) (image : Image)
    → IsReady set held plans store index entry image → Takes (rules_of set) set.base (with_room limits_of_a_board (rules_of set) set.base set.state) (Add entry image)
ready_takes set held plans store index entry image ready =
    may_come (rules_of set) set.base set.state entry image (wanted (rules_of set) set.base set.state entry.stamp ready.kept.stands.stands ready.wanted) ready.made

-- After it came in.

-- what is known of a set into which a publication came
pub record CameIn (set new : PublishedSet) (entry : Entry) : Type 0 where
  pub wanted : refused limits_of_a_board (rules_of set) set.base set.state entry.stamp ≡ None
  pub good : AllByRecursion IsGoodLine entry.lines
  pub base : new.base ≡ set.base
  pub state : new.state ≡ with_entry limits_of_a_board (rules_of set) set.base (with_room limits_of_a_board (rules_of set) set.base set.state) entry

-- it came in with its own image
pub came : (set new room : PublishedSet) (held : List (Option PublishedSet)) (plans : List (Option FoldPlan)) (store : List Entity) (index : List (ℕ × List Id)) (entry published : Entry) (image : Image)
    → IsReady set held plans store index entry image → room ≡ record { base = set.base; state = with_room limits_of_a_board (rules_of set) set.base set.state } → published ≡ entry
    → new ≡ record { base = room.base; state = applied room.state (Add published image) } → CameIn set new entry
came set new room held plans store index entry published image ready made is added = record {
  wanted = ready.wanted;
  good = ready.good;
  base = ap (λ (s : PublishedSet). s.base) added ∙ ap (λ (s : PublishedSet). s.base) made;
  state = ap (λ (s : PublishedSet). s.state) added
      ∙ ap₂ (λ (s : State) (e : Entry). applied s (Add e image)) (ap (λ (s : PublishedSet). s.state) made) is
      ∙ ap (λ (i : Image). applied (with_room limits_of_a_board (rules_of set) set.base set.state) (Add entry i)) (ready_takes set held plans store index entry image ready).1;
}

pub came_grown : (set new : PublishedSet) (entry : Entry) → CameIn set new entry → new.state.history ≡ set.state.history ++ entry ∷ []
came_grown set new entry came = ap (λ (s : State). s.history) came.state ∙ ap (λ (h : List Entry). h ++ entry ∷ []) (room_keeps (rules_of set) set.base set.state)

-- it runs on as after the publication
pub came_after : (set new : PublishedSet) (held : List (Option PublishedSet)) (plans : List (Option FoldPlan)) (store : List Entity) (index : List (ℕ × List Id)) (entry : Entry)
    → IsKept (running_over set held plans) store index → CameIn set new entry → running_over new held plans ≡ after_event (running_over set held plans) (Publish 0 entry.stamp entry.tag entry.lines)
came_after set new held plans store index entry kept came =
    let r : Running = running_over set held plans in
    let now : State = with_entry limits_of_a_board (rules_of set) set.base (with_room limits_of_a_board (rules_of set) set.base set.state) entry in
    let e : with_now r now ≡ after_event r (Publish 0 entry.stamp entry.tag entry.lines) = ap (λ (p : State × Reply). with_now r p.0) (sym (accepted (rules_of set) set.base set.state entry came.wanted)) in
    let ms : MachineStands (rules_of set) set.base (machine_of (with_now r now)) = stands_after r (with_now r now) (Publish 0 entry.stamp entry.tag entry.lines) kept.good_base came.good kept.stands e in
    let rules : rules_of new ≡ rules_of set = rules_held (rules_of set) set.base new (subst (λ (s : State). Stands (rules_of set) set.base s) (sym came.state) ms.stands) in
    running_moved set new held plans now rules came.base came.state ∙ e

-- and is answered so
pub came_answered : (set new : PublishedSet) (entry : Entry) (front : ℕ) → CameIn set new entry → front ≡ length new.state.history
    → Accepted front ≡ (publish limits_of_a_board (rules_of set) set.base set.state entry).1
came_answered set new entry front came is =
    let more : front ≡ length set.state.history + 1 = omega (arith, is, ap length (came_grown set new entry came), length-append set.state.history (entry ∷ [])) in
    ap Accepted more ∙ sym (ap (λ (p : State × Reply). p.1) (accepted (rules_of set) set.base set.state entry came.wanted))
