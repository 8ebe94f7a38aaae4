-- The laws of sets, with the laws of maps and folds.
use Rattle.std.proofs.Common.{◌≡◌, ℕ, zero, suc, List, [], ◌∷◌, ◌++◌, Option, Some, None, slice_get, refl, sym, ap, subst, ◌∙◌, arith}
use mathlib.Core.List.{IsPrefix}
use Rattle.std.specs.List.{AllByRecursion}
use Rattle.live_model.specs.declared.objects.Line.{Line}
use Rattle.live_model.specs.declared.rules.Rule.{Rule}
use Rattle.live_model.specs.Objects.{IsGoodLine}
use Rattle.live_model.specs.Maps.{answer, rebuilt}
use Rattle.map_laws.proofs.FoldLaws.{fold_is_laid, folds}
use Rattle.map_laws.proofs.OverlayProof.{history}
use Rattle.overlay_set.specs.Sets.{Entry, State, lines_of}
use Rattle.overlay_set.specs.Standing.{Stands}
use Rattle.overlay_set.specs.Swaps.{Swap, Add, Replace, IsJournal, IsLater, Takes, after, applied}
use Rattle.overlay_set.specs.SetLaws.{AnswerLaw, AreGood, IsGoodSwap, IsReached, JournalStandsLaw, NumberLaw, ReachedChainLaw, ReachedLaterLaw, ReachedStandsLaw, ShownLaw, SwapLaw}
use Rattle.overlay_set.specs.Machines.{Event, Publish, Plan, Commit, Take, Ask, Drop, Tell, Shrink, asked, step}
use Rattle.overlay_set.specs.MachineLaws.{AskLaw, EventsLaw, IsGoodEvent, IsHeld, IsNoPublish, IsSeen, MachineStands, SeenLaw, StayLaw, StepLaw}
use Rattle.overlay_set.proofs.Answering.{history_stays, rows_law}
use Rattle.overlay_set.proofs.Later.{later_after}
use Rattle.overlay_set.proofs.Overlays.{are_overlays}
use Rattle.overlay_set.proofs.Showing.{shown_law}
use Rattle.overlay_set.proofs.Stepping.{all_get, events_law, step_law}
use Rattle.overlay_set.proofs.Swapping.{swap_law}

pub swaps : SwapLaw
swaps rules base s swap store good st takes = swap_law folds rules base s swap (are_overlays rules base s.history store good) st takes

all_with : (history : List Entry) (entry : Entry) → AreGood history → AllByRecursion IsGoodLine entry.lines → AreGood (history ++ entry ∷ [])
all_with [] entry good fine = (fine, tt)
all_with (e ∷ es) entry good fine = (good.0, all_with es entry good.1 fine)

pub goes_on : (s : State) (swap : Swap) → AreGood s.history → IsGoodSwap swap → AreGood (applied s swap).history
goes_on s (Add entry image) good fine = all_with s.history entry good fine
goes_on s (Replace plan image) good fine = good

pub journals : JournalStandsLaw
journals rules base s [] store good fine st journal = st
journals rules base s (swap ∷ more) store good fine st journal =
    journals rules base (applied s swap) more store (goes_on s swap good fine.0) fine.1 (swaps rules base s swap store good st journal.0) journal.1

-- States that are reached.

pub reached_later : ReachedLaterLaw
reached_later rules base a b r = subst (IsLater a) (sym r.ends) (later_after a r.swaps)

good_both : (xs ys : List Swap) → AllByRecursion IsGoodSwap xs → AllByRecursion IsGoodSwap ys → AllByRecursion IsGoodSwap (xs ++ ys)
good_both [] ys fine more = more
good_both (x ∷ xs) ys fine more = (fine.0, good_both xs ys fine.1 more)

after_both : (s : State) (xs ys : List Swap) → after s (xs ++ ys) ≡ after (after s xs) ys
after_both s [] ys = refl
after_both s (x ∷ xs) ys = after_both (applied s x) xs ys

journal_both : (rules : List Rule) (base : List Line) (s : State) (xs ys : List Swap) → IsJournal rules base s xs → IsJournal rules base (after s xs) ys → IsJournal rules base s (xs ++ ys)
journal_both rules base s [] ys first more = more
journal_both rules base s (x ∷ xs) ys first more = (first.0, journal_both rules base (applied s x) xs ys first.1 more)

pub reached_chain : ReachedChainLaw
reached_chain rules base a b c p q = record {
  swaps = p.swaps ++ q.swaps;
  good = good_both p.swaps q.swaps p.good q.good;
  journal = journal_both rules base a p.swaps q.swaps p.journal (subst (λ (s : State). IsJournal rules base s q.swaps) p.ends q.journal);
  ends = q.ends ∙ ap (λ (s : State). after s q.swaps) p.ends ∙ sym (after_both a p.swaps q.swaps);
}

good_after : (s : State) (swaps : List Swap) → AreGood s.history → AllByRecursion IsGoodSwap swaps → AreGood (after s swaps).history
good_after s [] good fine = good
good_after s (swap ∷ more) good fine = good_after (applied s swap) more (goes_on s swap good fine.0) fine.1

pub reached_stands : ReachedStandsLaw
reached_stands rules base a b store good st r =
    subst (λ (s : State). Stands rules base s × AreGood s.history) (sym r.ends) (journals rules base a r.swaps store good r.good st r.journal, good_after a r.swaps good r.good)

pub numbers : NumberLaw
numbers rules base s st few = omega (arith, st.light)

pub shows : ShownLaw
shows rules base s store good st = shown_law fold_is_laid history rules base s store good (are_overlays rules base s.history store good) st

pub answers : AnswerLaw
answers rules base s query store good st = ap (answer rules query) (shows rules base s store good st)

pub steps : StepLaw
steps limits rules base store m event fine ms = step_law folds limits rules base (λ past good. are_overlays rules base past store good) m event fine ms

pub events : EventsLaw
events limits rules base store m list fine ms = events_law folds limits rules base (λ past good. are_overlays rules base past store good) m list fine ms

-- What passes are answered.

good_before : (xs ys : List Entry) → AreGood (xs ++ ys) → AreGood xs
good_before [] ys good = tt
good_before (x ∷ xs) ys good = (good.0, good_before xs ys good.1)

good_prefix : (xs ys : List Entry) → IsPrefix xs ys → AreGood ys → AreGood xs
good_prefix xs ys before good = good_before xs before.0 (subst AreGood (sym before.1) good)

some_of : {A : Type 0} (P : A → Type 0) (xs : List A) (n : ℕ) (x : A) → AllByRecursion P xs → slice_get xs n ≡ Some x → P x
some_of P [] n x all e = absurd cc
some_of P (y ∷ ys) zero x all e = subst P (cc e) all.0
some_of P (y ∷ ys) (suc n) x all e = some_of P ys n x all.1 e

pub seen : SeenLaw
seen rules base m pass s ms e = (some_of (IsSeen rules base m.now) m.seen pass s ms.seen_before e).1.history

pub asks : AskLaw
asks limits rules base store m pass query s ms e =
    let held : IsSeen rules base m.now s = subst (IsHeld rules base m.now) e (all_get (IsHeld rules base m.now) m.held pass None ms.held_before tt) in
    let good : AreGood s.history = good_prefix s.history m.now.history held.1.history ms.good in (
      held.1.history,
      ap (λ (o : Option State). asked limits rules base o query) e ∙ rows_law fold_is_laid history limits rules base s query store good (are_overlays rules base s.history store good) held.0,
    )

good_event : (event : Event) → IsNoPublish event → IsGoodEvent event
good_event (Publish pass stamp tag lines) is = absurd is
good_event (Plan worker) is = tt
good_event (Commit worker) is = tt
good_event (Take pass) is = tt
good_event (Ask pass query) is = tt
good_event (Drop pass) is = tt
good_event (Tell from to) is = tt
good_event Shrink is = tt

pub stays : StayLaw
stays limits rules base store m event is ms =
    let same = history_stays limits rules base m event is in
    let next : MachineStands rules base (step limits rules base m event).0 = steps limits rules base store m event (good_event event is) ms in (
      same,
      λ query. answers rules base (step limits rules base m event).0.now query store next.good next.stands
          ∙ ap (λ (entries : List Entry). answer rules query (rebuilt rules base (lines_of entries))) same ∙ sym (answers rules base m.now query store ms.good ms.stands),
    )
