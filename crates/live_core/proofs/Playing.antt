-- Machines that take events in turn: what they have seen steers nothing, histories grow, and rows stay those of the map made anew.
use Rattle.std.proofs.Common.{◌≡◌, ℕ, ◌+◌, ◌<◌, ◌≤◌, zero, suc, Bool, true, false, cond, List, [], ◌∷◌, ◌++◌, length, map, take, get_or, Option, Some, None, refl, sym, ap, ap₂, subst, ◌∙◌, append_assoc, append-nil, arith}
use Rattle.std.proofs.Math.Seq.{take-append_seam}
use Rattle.std.proofs.lemmas.List.{take-append-le, length-append}
use Rattle.std.proofs.Math.ListN.{length-set}
use Rattle.std.specs.List.{AllByRecursion, AllZip}
use mathlib.Core.List.{IsPrefix}
use Rattle.live_model.specs.declared.objects.Line.{Line}
use Rattle.live_model.specs.declared.rules.Rule.{Rule}
use Rattle.live_model.specs.Maps.{answer, rebuilt}
use Rattle.live_model.specs.Stores.{IsStore, apply}
use Rattle.overlay_set.specs.Sets.{Entry, State, lines_of}
use Rattle.overlay_set.specs.Periods.{Period, shrinkable}
use Rattle.overlay_set.specs.Machines.{Event, Publish, Plan, Commit, Take, Ask, Drop, Tell, Shrink, Reply, Rows, NotTaken, Machine, limits_of_a_board, at_place, asked, is_full, refused, with_fold_in, with_room, published_in, publish, step, machine_after, replies}
use Rattle.overlay_set.specs.MachineLaws.{MachineStands}
use Rattle.overlay_set.proofs.Answering.{history_stays}
use Rattle.overlay_set.proofs.Laws.{asks}
use Rattle.set_events.proofs.Publishing.{room_keeps}
use Rattle.live_core.specs.Running.{Running, running, machine_of, after_event, answer_to, IsStep, after_events, answers_to, SeenLaw, SeenEventsLaw, IsMadeAnew, IsReplay, HasPlayed, IsNamed, IsPlayed}

-- What passes have seen.

pub seen_law : SeenLaw
seen_law rules base m (Publish pass stamp tag lines) = (refl, refl)
seen_law rules base m (Plan worker) = (refl, refl)
seen_law rules base m (Commit worker) = (refl, refl)
seen_law rules base m (Take pass) = (refl, refl)
seen_law rules base m (Ask pass query) = (refl, refl)
seen_law rules base m (Drop pass) = (refl, refl)
seen_law rules base m (Tell from to) = (refl, refl)
seen_law rules base m Shrink = (refl, refl)

-- machines of which the same runs go on alike
alike : (rules : List Rule) (base : List Line) (a b : Machine) (events : List Event) → running rules base a ≡ running rules base b
    → (running rules base (machine_after limits_of_a_board rules base a events) ≡ running rules base (machine_after limits_of_a_board rules base b events))
    × (replies limits_of_a_board rules base a events ≡ replies limits_of_a_board rules base b events)
alike rules base a b [] e = (e, refl)
alike rules base a b (x ∷ xs) e =
    let next = sym (seen_law rules base a x).0 ∙ ap (λ (r : Running). after_event r x) e ∙ (seen_law rules base b x).0 in
    let first = sym (seen_law rules base a x).1 ∙ ap (λ (r : Running). answer_to r x) e ∙ (seen_law rules base b x).1 in
    let rest = alike rules base (step limits_of_a_board rules base a x).0 (step limits_of_a_board rules base b x).0 xs next in
    (rest.0, ap₂ (λ (r : Reply) (rs : List Reply). r ∷ rs) first rest.1)

pub seen_events_law : SeenEventsLaw
seen_events_law rules base m events = alike rules base (machine_of (running rules base m)) m events refl

-- One event more.

machines_more : (rules : List Rule) (base : List Line) (m : Machine) (events : List Event) (x : Event)
    → machine_after limits_of_a_board rules base m (events ++ x ∷ []) ≡ (step limits_of_a_board rules base (machine_after limits_of_a_board rules base m events) x).0
machines_more rules base m [] x = refl
machines_more rules base m (y ∷ ys) x = machines_more rules base (step limits_of_a_board rules base m y).0 ys x

replies_more : (rules : List Rule) (base : List Line) (m : Machine) (events : List Event) (x : Event)
    → replies limits_of_a_board rules base m (events ++ x ∷ []) ≡ replies limits_of_a_board rules base m events ++ (step limits_of_a_board rules base (machine_after limits_of_a_board rules base m events) x).1 ∷ []
replies_more rules base m [] x = refl
replies_more rules base m (y ∷ ys) x = ap (λ (rs : List Reply). (step limits_of_a_board rules base m y).1 ∷ rs) (replies_more rules base (step limits_of_a_board rules base m y).0 ys x)

after_more : (r : Running) (events : List Event) (x : Event) → after_events r (events ++ x ∷ []) ≡ after_event (after_events r events) x
after_more r events x =
    ap (λ (m : Machine). running r.rules r.base m) (machines_more r.rules r.base (machine_of r) events x)
    ∙ sym (seen_law r.rules r.base (machine_after limits_of_a_board r.rules r.base (machine_of r) events) x).0

answers_more : (r : Running) (events : List Event) (x : Event) → answers_to r (events ++ x ∷ []) ≡ answers_to r events ++ answer_to (after_events r events) x ∷ []
answers_more r events x =
    replies_more r.rules r.base (machine_of r) events x
    ∙ ap (λ (a : Reply). answers_to r events ++ a ∷ []) (sym (seen_law r.rules r.base (machine_after limits_of_a_board r.rules r.base (machine_of r) events) x).1)

-- Histories grow.

publish_grows : (rules : List Rule) (base : List Line) (s : State) (entry : Entry) → IsPrefix s.history (publish limits_of_a_board rules base s entry).0.history
publish_grows rules base s entry = go (refused limits_of_a_board rules base s entry.stamp)
  where
    go : (o : Option Reply) → IsPrefix s.history (published_in limits_of_a_board rules base o s entry).0.history
    go (Some refusal) = ([], append-nil s.history)
    go None = (entry ∷ [], ap (λ (h : List Entry). h ++ entry ∷ []) (sym (room_keeps rules base s)))

same_grows : (xs ys : List Entry) → ys ≡ xs → IsPrefix xs ys
same_grows xs ys e = ([], append-nil xs ∙ sym e)

pub event_grows : (r : Running) (event : Event) → IsPrefix r.now.history (after_event r event).now.history
event_grows r (Publish pass stamp tag lines) = publish_grows r.rules r.base r.now (record { stamp = stamp; tag = tag; lines = lines })
event_grows r (Plan worker) = same_grows r.now.history r.now.history refl
event_grows r (Commit worker) = same_grows r.now.history _ (history_stays limits_of_a_board r.rules r.base (machine_of r) (Commit worker) tt)
event_grows r (Take pass) = same_grows r.now.history r.now.history refl
event_grows r (Ask pass query) = same_grows r.now.history r.now.history refl
event_grows r (Drop pass) = same_grows r.now.history r.now.history refl
event_grows r (Tell from to) = same_grows r.now.history r.now.history refl
event_grows r Shrink = same_grows r.now.history _ (history_stays limits_of_a_board r.rules r.base (machine_of r) Shrink tt)

-- Rows.

-- what is made anew of a history is so of a longer one
pub anew_later : (a b : Running) (event : Event) (reply : Reply) → b.rules ≡ a.rules → b.base ≡ a.base → IsPrefix a.now.history b.now.history → IsMadeAnew a event reply → IsMadeAnew b event reply
anew_later a b event reply rules base grows anew pass query front rows is has =
    let h = anew pass query front rows is has in
    let longer : b.now.history ≡ a.now.history ++ grows.0 = sym grows.1 in
    let same : take front b.now.history ≡ take front a.now.history = ap (λ (l : List Entry). take front l) longer ∙ take-append-le front a.now.history grows.0 h.0 in (
      omega (arith, h.0, ap length longer, length-append a.now.history grows.0),
      h.1 ∙ ap₂ (λ (rs : List Rule) (bs : List Line). answer rs query (rebuilt rs bs (lines_of (take front a.now.history)))) (sym rules) (sym base)
          ∙ ap (λ (l : List Entry). answer b.rules query (rebuilt b.rules b.base (lines_of l))) (sym same),
    )

-- a machine that stands answers so
pub anew_now : (r : Running) (event : Event) (reply : Reply) → IsStore (apply [] r.base) → MachineStands r.rules r.base (machine_of r) → reply ≡ answer_to r event → IsMadeAnew r event reply
anew_now r event reply store stands answered pass query front rows is has = go (at_place r.held pass) refl
  where
    told : asked limits_of_a_board r.rules r.base (at_place r.held pass) query ≡ Rows front rows
    told = ap (λ (e : Event). answer_to r e) (sym is) ∙ sym answered ∙ has

    go : (o : Option State) → at_place r.held pass ≡ o → (front ≤ length r.now.history) × (rows ≡ answer r.rules query (rebuilt r.rules r.base (lines_of (take front r.now.history))))
    go None e =
        let none : NotTaken ≡ Rows front rows = ap (λ (o : Option State). asked limits_of_a_board r.rules r.base o query) (sym e) ∙ told in
        absurd (cc none)
    go (Some s) e =
        let law = asks limits_of_a_board r.rules r.base store (machine_of r) pass query s stands e in
        let both : Rows (length s.history) (answer r.rules query (rebuilt r.rules r.base (lines_of s.history))) ≡ Rows front rows = sym law.1 ∙ told in
        let count : length s.history ≡ front = cc both in
        let them : answer r.rules query (rebuilt r.rules r.base (lines_of s.history)) ≡ rows = cc both in
        let longer : r.now.history ≡ s.history ++ law.0.0 = sym law.0.1 in
        let first : take front r.now.history ≡ s.history = ap₂ (λ (n : ℕ) (l : List Entry). take n l) (sym count) longer ∙ take-append_seam s.history law.0.0 in (
          omega (arith, count, ap length longer, length-append s.history law.0.0),
          sym them ∙ ap (λ (l : List Entry). answer r.rules query (rebuilt r.rules r.base (lines_of l))) (sym first),
        )

-- Replies put after others.

zip_more : {A B : Type 0} (P : A → B → Type 0) (xs : List A) (ys : List B) (x : A) (y : B) → AllZip P xs ys → P x y → AllZip P (xs ++ x ∷ []) (ys ++ y ∷ [])
zip_more P [] [] x y all p = (p, tt)
zip_more P [] (b ∷ bs) x y all p = absurd all
zip_more P (a ∷ as_) [] x y all p = absurd all
zip_more P (a ∷ as_) (b ∷ bs) x y all p = (all.0, zip_more P as_ bs x y all.1 p)

zip_later : {A B : Type 0} (P Q : A → B → Type 0) → ((x : A) (y : B) → P x y → Q x y) → (xs : List A) (ys : List B) → AllZip P xs ys → AllZip Q xs ys
zip_later P Q f [] [] all = tt
zip_later P Q f [] (b ∷ bs) all = absurd all
zip_later P Q f (a ∷ as_) [] all = absurd all
zip_later P Q f (a ∷ as_) (b ∷ bs) all = (f a b all.0, zip_later P Q f as_ bs all.1)

-- an event after others
pub replay_more : (a b c : Running) (events : List Event) (answers : List Reply) (x : Event) (reply : Reply) → IsReplay a events answers b → IsStep b x reply c → IsMadeAnew c x reply
    → IsReplay a (events ++ x ∷ []) (answers ++ reply ∷ []) c
replay_more a b c events answers x reply p q anew =
    let next : c ≡ after_event (after_events a events) x = q.next ∙ ap (λ (r : Running). after_event r x) p.next in
    let rules : c.rules ≡ b.rules = ap (λ (r : Running). r.rules) q.next in
    let base : c.base ≡ b.base = ap (λ (r : Running). r.base) q.next in
    let grows : IsPrefix b.now.history c.now.history = subst (λ (r : Running). IsPrefix b.now.history r.now.history) (sym q.next) (event_grows b x) in record {
      next = next ∙ sym (after_more a events x);
      answered = ap₂ (λ (as_ : List Reply) (r : Reply). as_ ++ r ∷ []) p.answered (q.answered ∙ ap (λ (r : Running). answer_to r x) p.next) ∙ sym (answers_more a events x);
      anew = zip_more (IsMadeAnew c) events answers x reply (zip_later (IsMadeAnew b) (IsMadeAnew c) (λ event reply. anew_later b c event reply rules base grows) events answers p.anew) anew;
    }

pub played_none : (a : Running) (told : List Reply) → HasPlayed a [] a told told
played_none a told = record { answers = []; put = sym (append-nil told); played = record { next = refl; answered = refl; anew = tt } }

-- an event after others, with its reply at the end
pub played_more : (a b c : Running) (events : List Event) (x : Event) (earlier told more : List Reply) → HasPlayed a events b earlier told → IsPlayed b x c told more → HasPlayed a (events ++ x ∷ []) c earlier more
played_more a b c events x earlier told more p q = record {
  answers = p.answers ++ q.reply ∷ [];
  put = q.put ∙ ap (λ (rs : List Reply). rs ++ q.reply ∷ []) p.put ∙ append_assoc earlier p.answers (q.reply ∷ []);
  played = replay_more a b c events p.answers x q.reply p.played q.stepped q.anew;
}

-- The numbers of passes and workers stay.

step_counts : (rules : List Rule) (base : List Line) (m : Machine) (event : Event)
    → (length (step limits_of_a_board rules base m event).0.held ≡ length m.held) × (length (step limits_of_a_board rules base m event).0.plans ≡ length m.plans)
step_counts rules base m (Publish pass stamp tag lines) = (refl, refl)
step_counts rules base m (Plan worker) = (refl, simp length-set)
step_counts rules base m (Commit worker) = (refl, simp length-set)
step_counts rules base m (Take pass) = (simp length-set, refl)
step_counts rules base m (Ask pass query) = (refl, refl)
step_counts rules base m (Drop pass) = (simp length-set, refl)
step_counts rules base m (Tell from to) = (refl, refl)
step_counts rules base m Shrink = (refl, refl)

pub event_counts : (r : Running) (event : Event) → (length (after_event r event).held ≡ length r.held) × (length (after_event r event).plans ≡ length r.plans)
event_counts r event = step_counts r.rules r.base (machine_of r) event

machine_counts : (rules : List Rule) (base : List Line) (m : Machine) (events : List Event)
    → (length (machine_after limits_of_a_board rules base m events).held ≡ length m.held) × (length (machine_after limits_of_a_board rules base m events).plans ≡ length m.plans)
machine_counts rules base m [] = (refl, refl)
machine_counts rules base m (x ∷ xs) =
    let rest = machine_counts rules base (step limits_of_a_board rules base m x).0 xs in
    let first = step_counts rules base m x in
    (rest.0 ∙ first.0, rest.1 ∙ first.1)

named_later : (a b : Running) (event : Event) → length b.held ≡ length a.held → length b.plans ≡ length a.plans → IsNamed a event → IsNamed b event
named_later a b (Publish pass stamp tag lines) held plans named = omega (arith, named, held)
named_later a b (Plan worker) held plans named = omega (arith, named, plans)
named_later a b (Commit worker) held plans named = omega (arith, named, plans)
named_later a b (Take pass) held plans named = omega (arith, named, held)
named_later a b (Ask pass query) held plans named = omega (arith, named, held)
named_later a b (Drop pass) held plans named = omega (arith, named, held)
named_later a b (Tell from to) held plans named = (omega (arith, named.0, held), omega (arith, named.1, held))
named_later a b Shrink held plans named = tt

-- so what an event names is there after others too
pub named_after : (a b : Running) (events : List Event) (earlier told : List Reply) (x : Event) → HasPlayed a events b earlier told → IsNamed a x → IsNamed b x
named_after a b events earlier told x p named =
    let counts = machine_counts a.rules a.base (machine_of a) events in
    named_later a b x (ap (λ (r : Running). length r.held) p.played.next ∙ counts.0) (ap (λ (r : Running). length r.plans) p.played.next ∙ counts.1) named

-- Lists of events.

pub all_at : {A B : Type 0} (P : B → Type 0) (f : A → B) (xs : List A) (i : ℕ) (d : A) → AllByRecursion P (map f xs) → i < length xs → P (f (get_or xs i d))
all_at P f [] i d all lt = absurd (omega arith)
all_at P f (x ∷ xs) zero d all lt = all.0
all_at P f (x ∷ xs) (suc i) d all lt = all_at P f xs i d all.1 (omega arith)

pub map_more : {A B : Type 0} (f : A → B) (xs : List A) (i : ℕ) (d : A) → i < length xs → map f (take (i + 1) xs) ≡ map f (take i xs) ++ f (get_or xs i d) ∷ []
map_more f [] i d lt = absurd (omega arith)
map_more f (x ∷ xs) zero d lt = refl
map_more f (x ∷ xs) (suc i) d lt = let next : suc i + 1 ≡ suc (i + 1) = omega arith in ap (λ (n : ℕ). map f (take n (x ∷ xs))) next ∙ ap (λ l. f x ∷ l) (map_more f xs i d (omega arith))

pub map_taken : {A B : Type 0} (f : A → B) (i : ℕ) (xs : List A) → map f (take i xs) ≡ take i (map f xs)
map_taken f zero xs = refl
map_taken f (suc i) [] = refl
map_taken f (suc i) (x ∷ xs) = ap (λ l. f x ∷ l) (map_taken f i xs)

-- after an event that a machine took, its rows are so
pub anew_after : (a b : Running) (event : Event) (reply : Reply) → IsStore (apply [] a.base) → MachineStands a.rules a.base (machine_of a) → reply ≡ answer_to a event → b ≡ after_event a event → IsMadeAnew b event reply
anew_after a b event reply store stands answered next =
    anew_later a b event reply (ap (λ (r : Running). r.rules) next) (ap (λ (r : Running). r.base) next) (subst (λ (r : Running). IsPrefix a.now.history r.now.history) (sym next) (event_grows a event))
    (anew_now a event reply store stands answered)
