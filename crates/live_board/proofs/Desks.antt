-- What a desk keeps agrees with its journal, and goes on to.
use Rattle.std.proofs.Common.{◌≡◌, ℕ, ◌+◌, zero, suc, ◌<◌, ◌≤◌, ◌-◌, cond, option_map, Option, None, Some, Result, Ok, Err, MatchOption, MatchResult, IfOk, List, [], ◌∷◌, ◌++◌, length, replicate, refl, sym, ap, ap₂, subst, ◌∙◌, append_assoc, length-append, arith}
use Rattle.live_model.specs.declared.objects.Entity.{Entity}
use Rattle.live_model.specs.declared.objects.Line.{Line}
use Rattle.live_model.specs.declared.rules.Rule.{Rule}
use Rattle.live_model.specs.Ids.{Id}
use Rattle.live_model.specs.Maps.{published}
use Rattle.live_model.specs.Stores.{apply}
use Rattle.logbook.specs.Pages.{Book}
use Rattle.ref_index.specs.Indexes.{Indexes}
use Rattle.live_model.specs.declared.levels.Level.TheVariants.{Hour}
use Rattle.overlay_set.specs.Sets.{Entry, Image, State, lines_of, opening, run_image}
use Rattle.overlay_set.specs.Standing.{AreRising}
use Rattle.overlay_set.specs.Swaps.{Add, Fits, FoldPlan, IsLater, Swap, missing, plan_of}
use Rattle.overlay_set.proofs.Fitting.{fits_later}
use Rattle.overlay_set.proofs.Lists.{map-append, published-append}
use Rattle.published_set.specs.Sets.{IsStanding, IsStandingOver, PublishedSet, rules_of}
use Rattle.overlay_set.specs.Machines.{is_full, limits_of_a_board}
use Rattle.overlay_set.specs.Periods.{Period, shrinkable}
use Rattle.set_events.specs.Kept.{IsKeptBeside, plan_for_room}
use Rattle.set_events.proofs.Preparing.{rules_held}
use Rattle.board_journal.specs.declared.shown.Shown.{Shown}
use Rattle.board_journal.specs.Journals.{MayCome, state_after}
use Rattle.board_journal.specs.Views.{IsSound}
use Rattle.board_journal.proofs.Laws.{after_push, journal_short, journal_stands}
use Rattle.live_board.specs.Desks.{Agrees}
use Rattle.live_board.specs.Events.{entry_swap, fold_swap}
use Rattle.live_board.proofs.Events.{fold_comes, period_comes}
use Rattle.live_board.specs.Known.{Known, fresh}

-- What is published.

-- the set of a journal stands
pub set_stands : (rules : List Rule) (base : List Line) (set : PublishedSet) (log : List Swap) → set ≡ record { base = base; state = state_after rules base log } → IsStandingOver rules base (state_after rules base log)
    → IsStanding set × (rules_of set ≡ rules)
set_stands rules base set log is st =
    let state : set.state ≡ state_after rules base log = ap (λ (s : PublishedSet). s.state) is in
    let here : IsStandingOver rules base set.state = subst (λ (s : State). IsStandingOver rules base s) (sym state) st in
    let table : rules_of set ≡ rules = rules_held rules base set here.stands in (
      subst (λ (b : List Line). IsStandingOver (rules_of set) b set.state) (sym (ap (λ (s : PublishedSet). s.base) is)) (subst (λ (rs : List Rule). IsStandingOver rs base set.state) (sym table) here),
      table,
    )

pub sound_stands : (book : Book) (rules : List Rule) (base : List Line) (x : Shown) → IsSound book rules base x → IsStanding x.set × (rules_of x.set ≡ rules)
sound_stands book rules base x sound = set_stands rules base x.set x.seen.log sound.set_is (journal_stands rules base x.seen.log sound.journal)

-- and so does its state, over the rules and the base of the board
pub sound_state : (book : Book) (rules : List Rule) (base : List Line) (x : Shown) → IsSound book rules base x → IsStandingOver rules base x.set.state
sound_state book rules base x sound = subst (λ (s : PublishedSet). IsStandingOver rules base s.state) (sym sound.set_is) (journal_stands rules base x.seen.log sound.journal)

-- Beside it.

-- what a desk keeps is kept beside its set
pub beside : (book : Book) (rules : List Rule) (base : List Line) (x : Shown) (log : List Swap) (total : ℕ) (store : List Entity) (index : List (ℕ × List Id)) → IsSound book rules base x → x.seen.log ≡ log
    → Agrees base (state_after rules base log) total store index → IsKeptBeside x.set store index
beside book rules base x log total store index sound same agree =
    let set : x.set ≡ record { base = base; state = state_after rules base log } = sound.set_is ∙ ap (λ l. record { base = base; state = state_after rules base l }) same in record {
      standing = (sound_stands book rules base x sound).0;
      after_history = agree.stored ∙ ap (λ (s : PublishedSet). published (apply [] s.base) (lines_of s.state.history)) (sym set);
      indexed = agree.indexed;
    }

-- the swap of a publication whose image was made over the set
pub entry_made : (book : Book) (rules : List Rule) (base : List Line) (x there : Shown) (log : List Swap) (entry made : Entry) (image : Image) → IsSound book rules base x → x.seen.log ≡ log → there ≡ x → made ≡ entry
    → image ≡ run_image (rules_of there.set) (published (apply [] there.set.base) (lines_of there.set.state.history)) Hour (entry ∷ []) → Add made image ≡ entry_swap rules base log entry
entry_made book rules base x there log entry made image sound same here e i =
    let table : rules_of there.set ≡ rules = ap (λ (y : Shown). rules_of y.set) here ∙ (sound_stands book rules base x sound).1 in
    let set : there.set ≡ record { base = base; state = state_after rules base log } = ap (λ (y : Shown). y.set) here ∙ sound.set_is ∙ ap (λ l. record { base = base; state = state_after rules base l }) same in
    ap₂ Add e (i ∙ ap₂ (λ (rs : List Rule) (s : PublishedSet). run_image rs (published (apply [] s.base) (lines_of s.state.history)) Hour (entry ∷ [])) table set)

-- a fold that a pass has planned, whose files are all there, may come
pub commit_comes : (rules : List Rule) (base : List Line) (seen log : List Swap) (plan : FoldPlan) (set : PublishedSet) → set ≡ record { base = base; state = state_after rules base log } → IsStanding set
    → IsLater (state_after rules base seen) (state_after rules base log) → Fits plan (state_after rules base seen) → missing plan set.state ≡ None → MayCome rules base log (fold_swap plan)
commit_comes rules base seen log plan set is standing later fits there =
    let state : set.state ≡ state_after rules base log = ap (λ (s : PublishedSet). s.state) is in
    let rising : AreRising (state_after rules base log).history = subst (λ (s : State). AreRising s.history) state standing.stands.rising in
    fold_comes rules base log plan (fits_later plan (state_after rules base seen) (state_after rules base log) rising fits later) (subst (λ (s : State). missing plan s ≡ None) state there)

-- and so may the fold of what is due
pub due_comes : (rules : List Rule) (base : List Line) (log : List Swap) (set : PublishedSet) (found : Option FoldPlan) (o : Option Period) (plan : FoldPlan) → set ≡ record { base = base; state = state_after rules base log }
    → found ≡ option_map (λ p. plan_of p set.state.files) o → MatchOption found (Unit {0}) (λ p. Fits p set.state) → found ≡ Some plan → MayCome rules base log (fold_swap plan)
due_comes rules base log set found o plan is found_is fits there =
    let state : set.state ≡ state_after rules base log = ap (λ (s : PublishedSet). s.state) is in
    let here : Fits plan set.state = subst (λ (f : Option FoldPlan). MatchOption f (Unit {0}) (λ p. Fits p set.state)) there fits in
    period_comes rules base log o plan (subst (λ (s : State). Fits plan s) state here) (sym there ∙ found_is ∙ ap (λ (s : State). option_map (λ p. plan_of p s.files) o) state)

-- the plan for room, over the state of the journal
pub room_is : (rules : List Rule) (base : List Line) (log : List Swap) (set : PublishedSet) (plan : FoldPlan) (found : Option FoldPlan) → set ≡ record { base = base; state = state_after rules base log } → found ≡ plan_for_room set → found ≡ Some plan
    → Some plan ≡ cond (is_full limits_of_a_board rules base (state_after rules base log)) (option_map (λ p. plan_of p (state_after rules base log).files) (shrinkable (state_after rules base log))) None
room_is rules base log set plan found is found_is there = sym there ∙ found_is ∙ ap plan_for_room is

-- what holds of a result where it is Ok
pub ok_of : {T E : Type 0} (P Q : Type 0) (r : Result T E) → MatchResult r (λ x. P) (λ e. Q) → IfOk r (λ x. P)
ok_of P Q (Ok x) p = p
ok_of P Q (Err e) p = tt

-- a journal is short
pub desk_short : (book : Book) (rules : List Rule) (base : List Line) (x there : Shown) (log : List Swap) → IsSound book rules base x → x.seen.log ≡ log → there ≡ x → length there.set.state.history ≤ 65536 → length log ≤ 262144
desk_short book rules base x there log sound same here few =
    let set : there.set ≡ record { base = base; state = state_after rules base x.seen.log } = ap (λ (y : Shown). y.set) here ∙ sound.set_is in
    subst (λ (l : List Swap). length l ≤ 262144) same (journal_short rules base x.seen.log sound.journal (subst (λ (s : PublishedSet). length s.state.history ≤ 65536) set few))

-- at the beginning
pub opening_agrees : (rules : List Rule) (base : List Line) (total : ℕ) (store : List Entity) (index : List (ℕ × List Id)) → total ≡ 0 → store ≡ apply [] base → Indexes index store
    → Agrees base (state_after rules base []) total store index
opening_agrees rules base total store index none is indexed = record { counted = none; stored = is; indexed = indexed }

-- a publication counts, and store and index are those after its lines
pub adds_agree : (rules : List Rule) (base : List Line) (log now : List Swap) (entry : Entry) (image : Image) (total more : ℕ) (store moved : List Entity) (index refs : List (ℕ × List Id))
    → Agrees base (state_after rules base log) total store index → now ≡ log ++ Add entry image ∷ [] → more ≡ total + 1 → moved ≡ apply store entry.lines → Indexes refs moved
    → Agrees base (state_after rules base now) more moved refs
adds_agree rules base log now entry image total more store moved index refs agree is counted changed indexed =
    let s : State = state_after rules base log in
    let grown : (state_after rules base now).history ≡ s.history ++ entry ∷ [] = ap (λ l. (state_after rules base l).history) is ∙ ap (λ (t : State). t.history) (after_push (opening rules base) log (Add entry image)) in record {
      counted = omega (arith, counted, agree.counted, ap length grown, length-append s.history (entry ∷ []));
      stored =
          changed ∙ ap (λ (es : List Entity). apply es entry.lines) agree.stored
          ∙ sym (published-append (apply [] base) (lines_of s.history) (entry.lines ∷ []))
          ∙ ap (λ (ls : List (List Line)). published (apply [] base) ls) (sym (map-append (λ (e : Entry). e.lines) s.history (entry ∷ [])))
          ∙ ap (λ (h : List Entry). published (apply [] base) (lines_of h)) (sym grown);
      indexed = indexed;
    }

-- a fold leaves all
pub folds_agree : (rules : List Rule) (base : List Line) (log now : List Swap) (plan : FoldPlan) (total : ℕ) (store : List Entity) (index : List (ℕ × List Id)) → Agrees base (state_after rules base log) total store index
    → now ≡ log ++ fold_swap plan ∷ [] → Agrees base (state_after rules base now) total store index
folds_agree rules base log now plan total store index agree is =
    let same : (state_after rules base now).history ≡ (state_after rules base log).history = ap (λ l. (state_after rules base l).history) is ∙ ap (λ (t : State). t.history) (after_push (opening rules base) log (fold_swap plan)) in record {
      counted = agree.counted ∙ ap length (sym same);
      stored = agree.stored ∙ ap (λ (h : List Entry). published (apply [] base) (lines_of h)) (sym same);
      indexed = agree.indexed;
    }

-- Passes.

pub seats_step : (xs : List Known) (n : ℕ) → 0 < n → (xs ++ fresh ∷ []) ++ replicate (n - 1) fresh ≡ xs ++ replicate n fresh
seats_step xs zero some = absurd (omega arith)
seats_step xs (suc m) some = let e : suc m - 1 ≡ m = omega arith in rw e (append_assoc xs (fresh ∷ []) (replicate m fresh))
