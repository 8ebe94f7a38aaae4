-- What a machine keeps goes on to be kept.
use Rattle.std.proofs.Common.{◌≡◌, ℕ, zero, suc, List, [], ◌∷◌, ◌++◌, length, map, replicate, Option, Some, None, refl, sym, ap, ap₂, subst, ◌∙◌, arith}
use Rattle.std.specs.Prelude.{slice_set}
use Rattle.std.specs.List.{AllByRecursion}
use Rattle.live_model.specs.declared.objects.Entity.{Entity}
use Rattle.live_model.specs.declared.objects.Line.{Line}
use Rattle.live_model.specs.declared.rules.Rule.{Rule}
use Rattle.live_model.specs.Ids.{Id}
use Rattle.live_model.specs.Maps.{published}
use Rattle.live_model.specs.Objects.{IsGoodLine}
use Rattle.live_model.specs.Stores.{IsStore, apply}
use Rattle.ref_index.specs.Indexes.{Indexes}
use Rattle.overlay_set.specs.Sets.{Entry, MapFile, State, images_of, lines_of, opening}
use Rattle.overlay_set.specs.Standing.{Stands}
use Rattle.overlay_set.specs.SetLaws.{AreGood}
use Rattle.overlay_set.specs.Swaps.{FoldPlan, Fits, common_rules}
use Rattle.overlay_set.specs.Machines.{Event, Publish, Plan, Commit, Take, Ask, Drop, Tell, Shrink, Reply, NothingPlanned, Machine, opened, limits_of_a_board, at_place, commit, step}
use Rattle.overlay_set.specs.MachineLaws.{IsGoodEvent, IsHeld, IsNoPublish, MachineStands, PlanFits}
use Rattle.overlay_set.proofs.Laws.{steps}
use Rattle.overlay_set.proofs.Lists.{map-append, published-append}
use Rattle.overlay_set.proofs.Answering.{history_stays}
use Rattle.overlay_set.proofs.Stepping.{all_get, opened_law}
use Rattle.published_set.specs.Sets.{IsStanding, PublishedSet, rules_of}
use Rattle.live_core.specs.Running.{IsStep, Running, after_event, begun, machine_of, running, with_now}
use Rattle.set_events.specs.Asking.{StandsOver}
use Rattle.set_events.specs.Kept.{IsKeptBeside}
use Rattle.set_events.proofs.Preparing.{base_store, rules_held}
use Rattle.live_core.specs.Kept.{IsKept, running_over, state_in}

-- Places.

pub map_set : {A B : Type 0} (f : A → B) (xs : List A) (i : ℕ) (x : A) → map f (slice_set xs i x) ≡ slice_set (map f xs) i (f x)
map_set f [] i x = refl
map_set f (y ∷ ys) zero x = refl
map_set f (y ∷ ys) (suc i) x = ap (λ l. f y ∷ l) (map_set f ys i x)

pub map_count : {A B : Type 0} (f : A → B) (xs : List A) → length (map f xs) ≡ length xs
map_count f [] = refl
map_count f (x ∷ xs) = omega (arith, map_count f xs)

pub at_mapped : (xs : List (Option PublishedSet)) (i : ℕ) → at_place (map state_in xs) i ≡ state_in (at_place xs i)
at_mapped [] i = refl
at_mapped (x ∷ xs) zero = refl
at_mapped (x ∷ xs) (suc i) = at_mapped xs i

pub set_same : {A : Type 0} (xs : List (Option A)) (i : ℕ) → at_place xs i ≡ None → slice_set xs i None ≡ xs
set_same [] i e = refl
set_same (x ∷ xs) zero e = ap (λ y. y ∷ xs) (sym e)
set_same (x ∷ xs) (suc i) e = ap (λ l. x ∷ l) (set_same xs i e)

-- What stands goes on.

forget : (rules : List Rule) (base : List Line) (m : Machine) → MachineStands rules base m → MachineStands rules base (machine_of (running rules base m))
forget rules base m ms = record { stands = ms.stands; good = ms.good; seen_before = tt; held_before = ms.held_before; plans_fit = ms.plans_fit }

-- a machine stands after an event
pub stands_after : (r next : Running) (event : Event) → AllByRecursion IsGoodLine r.base → IsGoodEvent event → MachineStands r.rules r.base (machine_of r) → next ≡ after_event r event
    → MachineStands next.rules next.base (machine_of next)
stands_after r next event base good ms e =
    subst (λ (n : Running). MachineStands n.rules n.base (machine_of n)) (sym e)
    (forget r.rules r.base (step limits_of_a_board r.rules r.base (machine_of r) event).0 (steps limits_of_a_board r.rules r.base (base_store r.base base) (machine_of r) event good ms))

-- after an event that leaves the history all stays
pub kept_step : (r next : Running) (store : List Entity) (index : List (ℕ × List Id)) (event : Event) → IsKept r store index → IsGoodEvent event → next ≡ after_event r event
    → next.now.history ≡ r.now.history → IsKept next store index
kept_step r next store index event kept good e same = record {
  stands = stands_after r next event kept.good_base good kept.stands e;
  good_base = subst (λ (n : Running). AllByRecursion IsGoodLine n.base) (sym e) kept.good_base;
  after_history = kept.after_history ∙ ap₂ (λ (base : List Line) (h : List Entry). published (apply [] base) (lines_of h)) (sym (ap (λ (n : Running). n.base) e)) (sym same);
  indexed = kept.indexed;
}

-- after a publication that came in store and index are those after its lines
pub kept_publish : (r next : Running) (store moved : List Entity) (index refs : List (ℕ × List Id)) (event : Event) (entry : Entry) → IsKept r store index → IsGoodEvent event → next ≡ after_event r event
    → next.now.history ≡ r.now.history ++ entry ∷ [] → moved ≡ apply store entry.lines → Indexes refs moved → IsKept next moved refs
kept_publish r next store moved index refs event entry kept good e grown changed indexed = record {
  stands = stands_after r next event kept.good_base good kept.stands e;
  good_base = subst (λ (n : Running). AllByRecursion IsGoodLine n.base) (sym e) kept.good_base;
  after_history =
      changed ∙ ap (λ (s : List Entity). apply s entry.lines) kept.after_history
      ∙ sym (published-append (apply [] r.base) (lines_of r.now.history) (entry.lines ∷ []))
      ∙ ap (λ (ls : List (List Line)). published (apply [] r.base) ls) (sym (map-append (λ (e : Entry). e.lines) r.now.history (entry ∷ [])))
      ∙ ap₂ (λ (base : List Line) (h : List Entry). published (apply [] base) (lines_of h)) (sym (ap (λ (n : Running). n.base) e)) (sym grown);
  indexed = indexed;
}

good_event : (event : Event) → IsNoPublish event → IsGoodEvent event
good_event (Publish pass stamp tag lines) is = absurd is
good_event (Plan worker) is = tt
good_event (Commit worker) is = tt
good_event (Take pass) is = tt
good_event (Ask pass query) is = tt
good_event (Drop pass) is = tt
good_event (Tell from to) is = tt
good_event Shrink is = tt

-- so does all after an event that publishes nothing
pub kept_stay : (r next : Running) (store : List Entity) (index : List (ℕ × List Id)) (event : Event) → IsKept r store index → IsNoPublish event → next ≡ after_event r event → IsKept next store index
kept_stay r next store index event kept is e =
    kept_step r next store index event kept (good_event event is) e (ap (λ (n : Running). n.now.history) e ∙ history_stays limits_of_a_board r.rules r.base (machine_of r) event is)

-- at the beginning
pub kept_begun : (rules : List Rule) (base : List Line) (passes workers : ℕ) (store : List Entity) (index : List (ℕ × List Id)) → AllByRecursion IsGoodLine base → store ≡ apply [] base → Indexes index store
    → IsKept (begun rules base passes workers) store index
kept_begun rules base passes workers store index good is indexed =
    record { stands = forget rules base (opened rules base passes workers) (opened_law rules base passes workers); good_base = good; after_history = is; indexed = indexed }

-- a set of the same rules and base lines in the place of another
pub running_moved : (set new : PublishedSet) (held : List (Option PublishedSet)) (plans : List (Option FoldPlan)) (now : State) → rules_of new ≡ rules_of set → new.base ≡ set.base → new.state ≡ now
    → running_over new held plans ≡ with_now (running_over set held plans) now
running_moved set new held plans now r b s =
    ap₂ (λ (rules : List Rule) (base : List Line). record { rules = rules; base = base; now = new.state; held = map state_in held; plans = plans }) r b
    ∙ ap (λ (st : State). record { rules = rules_of set; base = set.base; now = st; held = map state_in held; plans = plans }) s

pub running_held : (set : PublishedSet) (held more : List (Option PublishedSet)) (plans : List (Option FoldPlan)) (i : ℕ) (item : Option PublishedSet) → more ≡ slice_set held i item
    → running_over set more plans ≡ record { rules = rules_of set; base = set.base; now = set.state; held = slice_set (map state_in held) i (state_in item); plans = plans }
running_held set held more plans i item e =
    ap (λ (hs : List (Option State)). record { rules = rules_of set; base = set.base; now = set.state; held = hs; plans = plans }) (ap (map state_in) e ∙ map_set state_in held i item)

-- What stands.

pub set_stands : (r : Running) (set : PublishedSet) (store : List Entity) (index : List (ℕ × List Id)) → IsKept r store index → r.rules ≡ rules_of set → r.base ≡ set.base → r.now ≡ set.state → IsStanding set
set_stands r set store index kept rules base now = record {
  stands = subst (λ (s : State). Stands (rules_of set) set.base s) now
      (subst (λ (b : List Line). Stands (rules_of set) b r.now) base (subst (λ (rs : List Rule). Stands rs r.base r.now) rules kept.stands.stands));
  good_base = subst (λ (b : List Line). AllByRecursion IsGoodLine b) base kept.good_base;
  good_history = subst (λ (s : State). AreGood s.history) now kept.stands.good;
}

-- beside the set of a machine are kept its store and index
pub kept_beside : (set : PublishedSet) (held : List (Option PublishedSet)) (plans : List (Option FoldPlan)) (store : List Entity) (index : List (ℕ × List Id)) → IsKept (running_over set held plans) store index → IsKeptBeside set store index
kept_beside set held plans store index kept = record {
  standing = record { stands = kept.stands.stands; good_base = kept.good_base; good_history = kept.stands.good };
  after_history = kept.after_history;
  indexed = kept.indexed;
}

-- Held sets.

pub stands_held : (rules : List Rule) (base : List Line) (set : PublishedSet) → Stands rules base set.state → StandsOver set
stands_held rules base set st = record { base = base; stands = subst (λ (rs : List Rule). Stands rs base set.state) (sym (rules_held rules base set st)) st }

-- what a pass holds stands
pub held_stands : (set : PublishedSet) (held : List (Option PublishedSet)) (plans : List (Option FoldPlan)) (store : List Entity) (index : List (ℕ × List Id)) (i : ℕ) (there : PublishedSet)
    → IsKept (running_over set held plans) store index → at_place held i ≡ Some there → Stands (rules_of set) set.base there.state
held_stands set held plans store index i there kept e =
    (subst (λ (o : Option State). IsHeld (rules_of set) set.base set.state o) (at_mapped held i ∙ ap state_in e)
    (all_get (IsHeld (rules_of set) set.base set.state) (map state_in held) i None kept.stands.held_before tt)).0

-- and what a worker has planned fits
pub plan_fits : (set : PublishedSet) (held : List (Option PublishedSet)) (plans : List (Option FoldPlan)) (store : List Entity) (index : List (ℕ × List Id)) (i : ℕ) (plan : FoldPlan)
    → IsKept (running_over set held plans) store index → at_place plans i ≡ Some plan → Fits plan set.state
plan_fits set held plans store index i plan kept e = subst (λ (o : Option FoldPlan). PlanFits set.state o) e (all_get (PlanFits set.state) plans i None kept.stands.plans_fit tt)

-- The beginning.

map_none : (n : ℕ) → map state_in (replicate n None) ≡ replicate n None
map_none zero = refl
map_none (suc n) = ap (λ (l : List (Option State)). None ∷ l) (map_none n)

pub begun_is : (set : PublishedSet) (held : List (Option PublishedSet)) (plans : List (Option FoldPlan)) (rules table : List Rule) (base : List Line) (passes workers : ℕ)
    → set ≡ record { base = base; state = opening table base } → table ≡ rules → held ≡ replicate passes None → plans ≡ replicate workers None → running_over set held plans ≡ begun rules base passes workers
begun_is set held plans rules table base passes workers s t h p =
    ap (λ (s : PublishedSet). running_over s held plans) s ∙ ap (λ (t : List Rule). running_over (record { base = base; state = opening t base }) held plans) t
    ∙ ap₂ (λ (hs : List (Option State)) (ps : List (Option FoldPlan)). record { rules = rules; base = base; now = opening rules base; held = hs; plans = ps }) (ap (map state_in) h ∙ map_none passes) p

-- Spent plans.

-- where a worker has no plan, nothing changes
pub none_spent : (r : Running) (worker : ℕ) → at_place r.plans worker ≡ None → IsStep r (Commit worker) NothingPlanned r
none_spent r worker none = record {
  next = ap₂ (λ (o : Option FoldPlan) (ps : List (Option FoldPlan)). record { rules = r.rules; base = r.base; now = (commit limits_of_a_board r.rules r.base o r.now).0; held = r.held; plans = ps }) (sym none)
      (sym (set_same r.plans worker none));
  answered = ap (λ (o : Option FoldPlan). (commit limits_of_a_board r.rules r.base o r.now).1) (sym none);
}

-- after the fold of a plan was brought in, the plan is there no more
pub plan_spent : (set new : PublishedSet) (held : List (Option PublishedSet)) (plans rest : List (Option FoldPlan)) (work : FoldPlan) (worker : ℕ) (reply : Reply)
    → Some work ≡ at_place plans worker → rest ≡ slice_set plans worker None → rules_of new ≡ rules_of set → new.base ≡ set.base
    → new.state ≡ (commit limits_of_a_board (rules_of set) set.base (Some work) set.state).0 → reply ≡ (commit limits_of_a_board (rules_of set) set.base (Some work) set.state).1
    → IsStep (running_over set held plans) (Commit worker) reply (running_over new held rest)
plan_spent set new held plans rest work worker reply is left rules base state answered = record {
  next = running_moved set new held rest _ rules base state
      ∙ ap₂ (λ (o : Option FoldPlan) (ps : List (Option FoldPlan)). record {
        rules = rules_of set;
        base = set.base;
        now = (commit limits_of_a_board (rules_of set) set.base o set.state).0;
        held = map state_in held;
        plans = ps;
      }) is left;
  answered = answered ∙ ap (λ (o : Option FoldPlan). (commit limits_of_a_board (rules_of set) set.base o set.state).1) is;
}
