-- A machine stands after each event.
use Rattle.std.proofs.Common.{◌≡◌, ℕ, zero, suc, ◌<◌, Bool, true, false, cond, ◌||◌, not, ◌==◌, nat_le, List, [], ◌∷◌, ◌++◌, length, find, slice_get, slice_set, replicate, Option, Some, None, option_map, unwrap_or, refl, sym, ap, subst, ◌∙◌, inl, inr, arith}
use Rattle.std.specs.Option.{option_or}
use Rattle.std.specs.List.{AllByRecursion, list_any, last_or}
use Rattle.std.proofs.lemmas.Bool.Decides.{nat_tests}
use Rattle.live_model.specs.declared.objects.Line.{Line}
use Rattle.live_model.specs.declared.rules.Rule.{Rule}
use Rattle.live_model.specs.declared.levels.Level.TheVariants.{Hour}
use Rattle.live_model.specs.Objects.{IsGoodLine}
use Rattle.live_model.specs.Stores.{apply}
use Rattle.live_model.specs.Maps.{published}
use Rattle.live_model.specs.MapLaws.{FoldsLaw}
use Rattle.stamp_core.specs.Hours.{CivilHour, number_of}
use Rattle.overlay_set.specs.Sets.{Entry, Image, MapFile, State, numbers_of, images_of, stamps_of, lines_of, run_image, last_in, opening, age}
use Rattle.overlay_set.specs.Periods.{Period, files_in, is_file_of, foldable, shrinkable}
use Rattle.overlay_set.specs.Standing.{AreRising, Stands}
use Rattle.overlay_set.specs.Swaps.{FoldPlan, plan_of, fold_image, Swap, Add, Replace, applied, IsAmong, IsLater, Fits, has_number, missing, Takes}
use Rattle.overlay_set.proofs.Overlays.{AreOverlays}
use Rattle.overlay_set.specs.Machines.{Publish, Plan, Commit, Take, Ask, Drop, Tell, Shrink, Reply, Late, Machine, Limits, at_place, with_fold_in, later_of, late_after, is_full, refused, with_room, published_in, publish, shrink, commit_over, commit, step}
use Rattle.overlay_set.specs.MachineLaws.{IsSeen, IsHeld, PlanFits, MachineStands, OpenedLaw}
use Rattle.overlay_set.specs.SetLaws.{AreGood}
use Rattle.overlay_set.proofs.Overlays.{EventsOverLaw, StepOverLaw}
use Rattle.overlay_set.proofs.Closing.{less-lt}
use Rattle.overlay_set.proofs.Fitting.{fits_later, each_of}
use Rattle.overlay_set.proofs.Later.{later_self, later_chain, later_step}
use Rattle.overlay_set.proofs.Planning.{plan_law, shrink_law, among_filter}
use Rattle.overlay_set.proofs.Swapping.{swap_law}

-- A state that came by swaps that may come.

record Follows (rules : List Rule) (base : List Line) (a b : State) : Type 0 where
  stands : Stands rules base b
  good : AreGood b.history
  later : IsLater a b

follows_self : (rules : List Rule) (base : List Line) (a : State) → Stands rules base a → AreGood a.history → Follows rules base a a
follows_self rules base a st fine = record { stands = st; good = fine; later = later_self a }

follows_swap : FoldsLaw → (rules : List Rule) (base : List Line) → ((history : List Entry) → AreGood history → AreOverlays rules base history) → (a b : State) (swap : Swap) → Follows rules base a b → Takes rules base b swap
    → AreGood (applied b swap).history → Follows rules base a (applied b swap)
follows_swap law rules base good a b swap f takes fine =
    record { stands = swap_law law rules base b swap (good b.history f.good) f.stands takes; good = fine; later = later_chain a b (applied b swap) f.later (later_step b swap) }

-- No file of a plan of the present files is missing.

any_number : (files : List MapFile) (f : MapFile) → IsAmong f files → list_any (λ g. g.number == f.number) files ≡ true
any_number [] f h = absurd h
any_number (g ∷ gs) f (inl e) = go (g.number == f.number) (ap (λ (x : MapFile). x.number == f.number) (sym e) ∙ grind (arith, nat_tests))
  where
    go : (b : Bool) → b ≡ true → (b || list_any (λ g. g.number == f.number) gs) ≡ true
    go true e = refl
    go false e = absurd cc
any_number (g ∷ gs) f (inr h) = go (g.number == f.number) (any_number gs f h)
  where
    go : (b : Bool) → list_any (λ g. g.number == f.number) gs ≡ true → (b || list_any (λ g. g.number == f.number) gs) ≡ true
    go true e = refl
    go false e = e

none_missing : (s : State) (fs : List MapFile) → ((f : MapFile) → IsAmong f fs → IsAmong f s.files) → find (λ n. not (has_number s n)) (numbers_of fs) ≡ None
none_missing s [] inside = refl
none_missing s (f ∷ fs) inside = go (has_number s f.number) (any_number s.files f (inside f (inl refl))) (none_missing s fs (λ g h. inside g (inr h)))
  where
    go : (b : Bool) → b ≡ true → find (λ n. not (has_number s n)) (numbers_of fs) ≡ None → cond (not b) (Some f.number) (find (λ n. not (has_number s n)) (numbers_of fs)) ≡ None
    go true e ih = ih
    go false e ih = absurd cc

takes_period : (rules : List Rule) (base : List Line) (s : State) (p : Period) → Fits (plan_of p s.files) s
    → Takes rules base s (Replace (plan_of p s.files) (fold_image p.level (images_of (files_in p s.files))))
takes_period rules base s p fits = (fits, none_missing s (files_in p s.files) (λ f h. among_filter (is_file_of p) s.files f h), refl)

-- Stamps.

last_before : (xs : List Entry) (found : Option CivilHour) (stamp : CivilHour) → AreRising xs
    → ((last : CivilHour) → last_or found (stamps_of xs) ≡ Some last → number_of last < number_of stamp) → AllByRecursion (λ e. number_of e.stamp < number_of stamp) xs
last_before [] found stamp rising f = tt
last_before (x ∷ []) found stamp rising f = (f x.stamp refl, tt)
last_before (x ∷ y ∷ ys) found stamp rising f =
    let rest = last_before (y ∷ ys) (Some x.stamp) stamp rising.1 f in
    (omega (arith, less-lt (number_of x.stamp) (number_of y.stamp) rising.0.0, rest.0), rest)

not_late : (found : Option CivilHour) (front : ℕ) (stamp : CivilHour) (other : Option Reply) → option_or (late_after found front stamp) other ≡ None
    → (last : CivilHour) → found ≡ Some last → number_of last < number_of stamp
not_late None front stamp other e last is = absurd cc
not_late (Some h) front stamp other e last is = go (nat_le (number_of stamp) (number_of h)) refl e
  where
    same : h ≡ last
    same = cc

    go : (b : Bool) → nat_le (number_of stamp) (number_of h) ≡ b → option_or (cond b (Some (Late front h)) None) other ≡ None → number_of last < number_of stamp
    go true w e = absurd cc
    go false w e =
        let lt : number_of h < number_of stamp = grind (arith, nat_tests) in
        subst (λ h. number_of h < number_of stamp) same lt

-- The events.

module _ (law : FoldsLaw) (limits : Limits) (rules : List Rule) (base : List Line) (good : (history : List Entry) → AreGood history → AreOverlays rules base history) where
  room_follows : (s : State) → Stands rules base s → AreGood s.history → Follows rules base s (with_room limits rules base s) × ((with_room limits rules base s).history ≡ s.history)
  room_follows s st fine = go (is_full limits rules base s)
    where
      shrunk : (o : Option Period) → shrinkable s ≡ o → Follows rules base s (with_fold_in o s) × ((with_fold_in o s).history ≡ s.history)
      shrunk None e = (follows_self rules base s st fine, refl)
      shrunk (Some p) e = (
        follows_swap law rules base good s s (Replace (plan_of p s.files) (fold_image p.level (images_of (files_in p s.files)))) (follows_self rules base s st fine)
            (takes_period rules base s p (shrink_law rules base s p st e)) fine,
        refl,
      )

      go : (b : Bool) → Follows rules base s (cond b (with_fold_in (shrinkable s) s) s) × ((cond b (with_fold_in (shrinkable s) s) s).history ≡ s.history)
      go true = shrunk (shrinkable s) refl
      go false = (follows_self rules base s st fine, refl)

  publish_follows : (s : State) (entry : Entry) → Stands rules base s → AreGood s.history → AllByRecursion IsGoodLine entry.lines → Follows rules base s (publish limits rules base s entry).0
  publish_follows s entry st fine lines = go (refused limits rules base s entry.stamp) refl
    where
      good_add : (h : List Entry) → AreGood h → AreGood (h ++ entry ∷ [])
      good_add [] all = (lines, tt)
      good_add (x ∷ xs) all = (all.0, good_add xs all.1)

      go : (o : Option Reply) → refused limits rules base s entry.stamp ≡ o → Follows rules base s (published_in limits rules base o s entry).0
      go (Some refusal) e = follows_self rules base s st fine
      go None e =
          let room = room_follows s st fine in
          let before : AllByRecursion (λ e. number_of e.stamp < number_of entry.stamp) s.history =
          last_before s.history None entry.stamp st.rising (not_late (last_in (stamps_of s.history)) (length s.history) entry.stamp _ e) in
          let here : State = with_room limits rules base s in
          let image : Image = run_image rules (published (apply [] base) (lines_of here.history)) Hour (entry ∷ []) in
          let takes : Takes rules base here (Add entry image) = (subst (λ h. AllByRecursion (λ e. number_of e.stamp < number_of entry.stamp) h) (sym room.1) before, refl) in
          follows_swap law rules base good s here (Add entry image) room.0 takes (good_add here.history (subst AreGood (sym room.1) fine))

  shrink_follows : (s : State) → Stands rules base s → AreGood s.history → (o : Option Period) → shrinkable s ≡ o → Follows rules base s (shrink limits rules base o s).0
  shrink_follows s st fine None e = follows_self rules base s st fine
  shrink_follows s st fine (Some p) e =
      follows_swap law rules base good s s (Replace (plan_of p s.files) (fold_image p.level (images_of (files_in p s.files)))) (follows_self rules base s st fine) (takes_period rules base s p (shrink_law rules base s p st e)) fine

  commit_follows : (s : State) → Stands rules base s → AreGood s.history → (o : Option FoldPlan) → PlanFits s o → Follows rules base s (commit limits rules base o s).0
  commit_follows s st fine None fits = follows_self rules base s st fine
  commit_follows s st fine (Some plan) fits = go (missing plan s) refl
    where
      go : (o : Option ℕ) → missing plan s ≡ o → Follows rules base s (commit_over limits rules base o plan s).0
      go (Some file) e = follows_self rules base s st fine
      go None e = follows_swap law rules base good s s (Replace plan (fold_image plan.level (images_of plan.files))) (follows_self rules base s st fine) (fits, e, refl) fine

all_set : {A : Type 0} (P : A → Type 0) (xs : List A) (n : ℕ) (x : A) → AllByRecursion P xs → P x → AllByRecursion P (slice_set xs n x)
all_set P [] n x all px = tt
all_set P (y ∷ ys) zero x all px = (px, all.1)
all_set P (y ∷ ys) (suc n) x all px = (all.0, all_set P ys n x all.1 px)

pub all_get : {A : Type 0} (P : A → Type 0) (xs : List A) (n : ℕ) (d : A) → AllByRecursion P xs → P d → P (unwrap_or (slice_get xs n) d)
all_get P [] n d all pd = pd
all_get P (y ∷ ys) zero d all pd = all.0
all_get P (y ∷ ys) (suc n) d all pd = all_get P ys n d all.1 pd

held_later : (rules : List Rule) (base : List Line) (a b : State) → IsLater a b → (o : Option State) → IsHeld rules base a o → IsHeld rules base b o
held_later rules base a b later None h = tt
held_later rules base a b later (Some s) h = (h.0, later_chain s a b h.1 later)

plan_later : (a b : State) → AreRising b.history → IsLater a b → (o : Option FoldPlan) → PlanFits a o → PlanFits b o
plan_later a b rising later None h = tt
plan_later a b rising later (Some plan) h = fits_later plan a b rising h later

-- a machine whose present state has been followed
follow : (rules : List Rule) (base : List Line) (m : Machine) (now : State) → MachineStands rules base m → Follows rules base m.now now → MachineStands rules base (record m { now = now })
follow rules base m now ms f = record {
  stands = f.stands;
  good = f.good;
  seen_before = each_of (IsSeen rules base m.now) (IsSeen rules base now) (λ s h. (h.0, later_chain s m.now now h.1 f.later)) m.seen ms.seen_before;
  held_before = each_of (IsHeld rules base m.now) (IsHeld rules base now) (held_later rules base m.now now f.later) m.held ms.held_before;
  plans_fit = each_of (PlanFits m.now) (PlanFits now) (plan_later m.now now f.stands.rising f.later) m.plans ms.plans_fit;
}

with_seen : (rules : List Rule) (base : List Line) (m : Machine) (n : ℕ) (s : State) → MachineStands rules base m → IsSeen rules base m.now s → MachineStands rules base (record m { seen = slice_set m.seen n s })
with_seen rules base m n s ms h = record { stands = ms.stands; good = ms.good; seen_before = all_set (IsSeen rules base m.now) m.seen n s ms.seen_before h; held_before = ms.held_before; plans_fit = ms.plans_fit }

with_held : (rules : List Rule) (base : List Line) (m : Machine) (n : ℕ) (o : Option State) → MachineStands rules base m → IsHeld rules base m.now o → MachineStands rules base (record m { held = slice_set m.held n o })
with_held rules base m n o ms h = record { stands = ms.stands; good = ms.good; seen_before = ms.seen_before; held_before = all_set (IsHeld rules base m.now) m.held n o ms.held_before h; plans_fit = ms.plans_fit }

with_plan : (rules : List Rule) (base : List Line) (m : Machine) (n : ℕ) (o : Option FoldPlan) → MachineStands rules base m → PlanFits m.now o → MachineStands rules base (record m { plans = slice_set m.plans n o })
with_plan rules base m n o ms h = record { stands = ms.stands; good = ms.good; seen_before = ms.seen_before; held_before = ms.held_before; plans_fit = all_set (PlanFits m.now) m.plans n o ms.plans_fit h }

now_seen : (rules : List Rule) (base : List Line) (s : State) → Stands rules base s → IsSeen rules base s s
now_seen rules base s st = (st, later_self s)

later_of_seen : (rules : List Rule) (base : List Line) (now a b : State) → IsSeen rules base now a → IsSeen rules base now b → IsSeen rules base now (later_of a b)
later_of_seen rules base now a b ha hb = go (nat_le (age a) (age b))
  where
    go : (c : Bool) → IsSeen rules base now (cond c b a)
    go true = hb
    go false = ha

plan_found : (rules : List Rule) (base : List Line) (s : State) → Stands rules base s → (o : Option Period) → foldable s ≡ o → PlanFits s (option_map (λ p. plan_of p s.files) o)
plan_found rules base s st None e = tt
plan_found rules base s st (Some p) e = plan_law rules base s p st e

-- where a fold of folds is the fold of the whole
pub step_law : FoldsLaw → StepOverLaw
step_law law limits rules base good m (Publish pass stamp tag lines) fine ms =
    let entry : Entry = record { stamp = stamp; tag = tag; lines = lines } in
    let f = publish_follows law limits rules base good m.now entry ms.stands ms.good fine in
    with_seen rules base (record m { now = (publish limits rules base m.now entry).0 }) pass (publish limits rules base m.now entry).0
    (follow rules base m (publish limits rules base m.now entry).0 ms f) (now_seen rules base (publish limits rules base m.now entry).0 f.stands)
step_law law limits rules base good m (Plan worker) fine ms =
    with_plan rules base m worker (option_map (λ p. plan_of p m.now.files) (foldable m.now)) ms (plan_found rules base m.now ms.stands (foldable m.now) refl)
step_law law limits rules base good m (Commit worker) fine ms =
    let o : Option FoldPlan = at_place m.plans worker in
    let now : State = (commit limits rules base o m.now).0 in
    let f = commit_follows law limits rules base good m.now ms.stands ms.good o (all_get (PlanFits m.now) m.plans worker None ms.plans_fit tt) in
    with_plan rules base (record m { now = now }) worker None (follow rules base m now ms f) tt
step_law law limits rules base good m (Take pass) fine ms =
    with_held rules base (record m { seen = slice_set m.seen pass m.now }) pass (Some m.now) (with_seen rules base m pass m.now ms (now_seen rules base m.now ms.stands)) (now_seen rules base m.now ms.stands)
step_law law limits rules base good m (Ask pass query) fine ms = ms
step_law law limits rules base good m (Drop pass) fine ms = with_held rules base m pass None ms tt
step_law law limits rules base good m (Tell from to) fine ms =
    with_seen rules base m to (later_of (unwrap_or (slice_get m.seen to) m.now) (unwrap_or (slice_get m.seen from) m.now)) ms
    (later_of_seen rules base m.now (unwrap_or (slice_get m.seen to) m.now) (unwrap_or (slice_get m.seen from) m.now)
    (all_get (IsSeen rules base m.now) m.seen to m.now ms.seen_before (now_seen rules base m.now ms.stands))
    (all_get (IsSeen rules base m.now) m.seen from m.now ms.seen_before (now_seen rules base m.now ms.stands)))
step_law law limits rules base good m Shrink fine ms =
    follow rules base m (shrink limits rules base (shrinkable m.now) m.now).0 ms (shrink_follows law limits rules base good m.now ms.stands ms.good (shrinkable m.now) refl)

-- Lists of events.

pub events_law : FoldsLaw → EventsOverLaw
events_law law limits rules base good m [] fine ms = ms
events_law law limits rules base good m (event ∷ events) fine ms =
    events_law law limits rules base good (step limits rules base m event).0 events fine.1 (step_law law limits rules base good m event fine.0 ms)

all_same : {A : Type 0} (P : A → Type 0) (n : ℕ) (x : A) → P x → AllByRecursion P (replicate n x)
all_same P zero x px = tt
all_same P (suc n) x px = (px, all_same P n x px)

pub opening_stands : (rules : List Rule) (base : List Line) → Stands rules base (opening rules base)
opening_stands rules base = record { above = []; runs = []; files = refl; parted = refl; held = tt; rising = tt; apart = (tt, tt); light = omega arith }

pub opened_law : OpenedLaw
opened_law rules base passes workers =
    let s : State = opening rules base in record {
      stands = opening_stands rules base;
      good = tt;
      seen_before = all_same (IsSeen rules base s) passes s (now_seen rules base s (opening_stands rules base));
      held_before = all_same (IsHeld rules base s) passes None tt;
      plans_fit = all_same (PlanFits s) workers None tt;
    }
