-- What events make of a journal, and what may come after it.
use Rattle.std.proofs.Common.{◌≡◌, ℕ, ◌+◌, ◌≤◌, Bool, true, false, cond, ◌&&◌, nat_le, nat_lt, List, [], ◌∷◌, ◌++◌, length, Option, Some, None, option_map, refl, sym, ap, ap₂, subst, ◌∙◌, append_assoc, append-nil}
use Rattle.std.specs.Prelude.{IsTrue}
use Rattle.std.specs.List.{AllByRecursion}
use mathlib.Core.List.{IsPrefix}
use Rattle.live_model.specs.declared.levels.Level.TheVariants.{Hour}
use Rattle.live_model.specs.declared.objects.Line.{Line}
use Rattle.live_model.specs.declared.rules.Rule.{Rule}
use Rattle.live_model.specs.Objects.{IsGoodLine}
use Rattle.live_model.specs.Maps.{published}
use Rattle.live_model.specs.Stores.{apply}
use Rattle.overlay_set.specs.Machines.{Reply, commit_over, is_full, limits_of_a_board, publish, refused, with_entry, with_fold_in}
use Rattle.overlay_set.specs.Machines.{with_room as state_with_room}
use Rattle.overlay_set.specs.Periods.{Period, foldable, shrinkable}
use Rattle.overlay_set.specs.Sets.{Entry, State, lines_of, opening, run_image}
use Rattle.overlay_set.specs.Swaps.{Add, Fits, FoldPlan, Swap, Takes, missing, plan_of}
use Rattle.overlay_set.proofs.Later.{prefix_chain}
use Rattle.overlay_set.proofs.Lists.{all-append}
use Rattle.published_set.specs.Ops.{HasRoomFor}
use Rattle.published_set.specs.Sets.{IsStandingOver}
use Rattle.set_events.proofs.Publishing.{MakesRoom, accepted, has_room_for, may_come, period_there, room_keeps, room_made, wanted}
use Rattle.board_journal.specs.Journals.{IsBoardJournal, MayCome, state_after}
use Rattle.board_journal.proofs.Laws.{after_push, journal_stands}
use Rattle.board_journal.proofs.Fronts.{prefix_self}
use Rattle.live_board.specs.Events.{AreFolds, FoldedLaw, IsFold, PublishedLaw, entry_swap, fold_swap, published_after, with_fold_of, with_room}

-- Folds.

pub folds_self : (xs : List Swap) → AreFolds xs xs
folds_self xs = record { folds = []; only = tt; joined = sym (append-nil xs) }

pub folds_chain : (xs ys zs : List Swap) → AreFolds xs ys → AreFolds ys zs → AreFolds xs zs
folds_chain xs ys zs p q = record {
  folds = p.folds ++ q.folds;
  only = all-append (λ s. IsFold s) p.folds q.folds p.only q.only;
  joined = q.joined ∙ ap (λ l. l ++ q.folds) p.joined ∙ append_assoc xs p.folds q.folds;
}

pub one_fold : (xs ys : List Swap) (plan : FoldPlan) → ys ≡ xs ++ fold_swap plan ∷ [] → AreFolds xs ys
one_fold xs ys plan is = record { folds = fold_swap plan ∷ []; only = (tt, tt); joined = is }

module _ (rules : List Rule) (base : List Line) where
  -- a plan that fits, all of whose files are there
  pub fold_comes : (log : List Swap) (plan : FoldPlan) → Fits plan (state_after rules base log) → missing plan (state_after rules base log) ≡ None → MayCome rules base log (fold_swap plan)
  fold_comes log plan fits there = record { good = tt; takes = (fits, there, refl) }

  -- the plan of a period of the present files
  pub period_comes : (log : List Swap) (o : Option Period) (plan : FoldPlan) → Fits plan (state_after rules base log) → Some plan ≡ option_map (λ p. plan_of p (state_after rules base log).files) o
      → MayCome rules base log (fold_swap plan)
  period_comes log None plan fits e = absurd cc
  period_comes log (Some p) plan fits e =
      let is : plan ≡ plan_of p (state_after rules base log).files = cc in
      fold_comes log plan fits (ap (λ (q : FoldPlan). missing q (state_after rules base log)) is ∙ period_there (state_after rules base log) p)

  -- Room.

  room_fold : (log : List Swap) (b : Bool) (o : Option Period) → state_after rules base (cond b (with_fold_of o (state_after rules base log) log) log) ≡ cond b (with_fold_in o (state_after rules base log)) (state_after rules base log)
  room_fold log true None = refl
  room_fold log true (Some p) = after_push (opening rules base) log (fold_swap (plan_of p (state_after rules base log).files))
  room_fold log false o = refl

  -- the state after room was made is the one of the machine
  pub room_state : (log : List Swap) → state_after rules base (with_room rules base log) ≡ state_with_room limits_of_a_board rules base (state_after rules base log)
  room_state log = room_fold log (is_full limits_of_a_board rules base (state_after rules base log)) (shrinkable (state_after rules base log))

  pub room_none : (log : List Swap) (b : Bool) (o : Option Period) → None ≡ cond b (option_map (λ p. plan_of p (state_after rules base log).files) o) None → cond b (with_fold_of o (state_after rules base log) log) log ≡ log
  room_none log true None e = refl
  room_none log true (Some p) e = absurd cc
  room_none log false o e = refl

  pub room_some : (log : List Swap) (b : Bool) (o : Option Period) (plan : FoldPlan) → Some plan ≡ cond b (option_map (λ p. plan_of p (state_after rules base log).files) o) None
      → cond b (with_fold_of o (state_after rules base log) log) log ≡ log ++ fold_swap plan ∷ []
  room_some log true None plan e = absurd cc
  room_some log true (Some p) plan e = let is : plan ≡ plan_of p (state_after rules base log).files = cc in ap (λ (q : FoldPlan). log ++ fold_swap q ∷ []) (sym is)
  room_some log false o plan e = absurd cc

  -- the fold that makes room may come
  pub room_comes : (log : List Swap) (plan : FoldPlan) → IsStandingOver rules base (state_after rules base log)
      → Some plan ≡ cond (is_full limits_of_a_board rules base (state_after rules base log)) (option_map (λ p. plan_of p (state_after rules base log).files) (shrinkable (state_after rules base log))) None
      → MayCome rules base log (fold_swap plan)
  room_comes log plan st e =
      let m : MakesRoom rules base (state_after rules base log) plan = room_made rules base (state_after rules base log) st.stands plan e in
      fold_comes log plan m.fits m.there

  -- and leaves the history
  pub room_history : (log : List Swap) → (state_after rules base (with_room rules base log)).history ≡ (state_after rules base log).history
  room_history log = ap (λ (t : State). t.history) (room_state log) ∙ room_keeps rules base (state_after rules base log)

  -- the journal goes on
  room_prefix : (log : List Swap) (b : Bool) (o : Option Period) (s : State) → IsPrefix log (cond b (with_fold_of o s log) log)
  room_prefix log true None s = prefix_self log
  room_prefix log true (Some p) s = (fold_swap (plan_of p s.files) ∷ [], refl)
  room_prefix log false o s = prefix_self log

  pub published_grows : (log : List Swap) (entry : Entry) → IsPrefix log (published_after rules base log entry)
  published_grows log entry =
      let s : State = state_after rules base log in
      prefix_chain log (with_room rules base log) (published_after rules base log entry) (room_prefix log (is_full limits_of_a_board rules base s) (shrinkable s) s) (entry_swap rules base (with_room rules base log) entry ∷ [], refl)

  -- Publications.

  -- a publication that is not refused may come after room was made
  pub entry_comes : (log : List Swap) (entry : Entry) → IsBoardJournal rules base log → AllByRecursion IsGoodLine entry.lines → refused limits_of_a_board rules base (state_after rules base log) entry.stamp ≡ None
      → MayCome rules base (with_room rules base log) (entry_swap rules base (with_room rules base log) entry)
  entry_comes log entry journal good not_refused =
      let s : State = state_after rules base log in
      let st = (journal_stands rules base log journal).stands in
      let image = run_image rules (published (apply [] base) (lines_of (state_after rules base (with_room rules base log)).history)) Hour (entry ∷ []) in
      let same : (state_after rules base (with_room rules base log)).history ≡ s.history = ap (λ (t : State). t.history) (room_state log) ∙ room_keeps rules base s in record {
        good = good;
        takes = subst (λ (t : State). Takes rules base t (Add entry image)) (sym (room_state log))
            (may_come rules base s entry image (wanted rules base s entry.stamp st not_refused) (ap (λ (h : List Entry). run_image rules (published (apply [] base) (lines_of h)) Hour (entry ∷ [])) same));
      }

  -- and there is room for it then
  pub entry_has_room : (log : List Swap) (entry : Entry) → IsBoardJournal rules base log → refused limits_of_a_board rules base (state_after rules base log) entry.stamp ≡ None → length (state_after rules base log).files ≤ 1024
      → HasRoomFor (state_after rules base (with_room rules base log)) (entry_swap rules base (with_room rules base log) entry)
  entry_has_room log entry journal not_refused few =
      let s : State = state_after rules base log in
      let st = (journal_stands rules base log journal).stands in
      subst (λ (t : State). IsTrue (nat_lt (length t.history) 65536 && nat_lt (length t.files) 1024)) (sym (room_state log))
      (has_room_for rules base s entry.stamp st (wanted rules base s entry.stamp st not_refused) few)

  -- Machines.

  pub published_law : PublishedLaw rules base
  published_law log entry not_refused =
      let s : State = state_after rules base log in
      after_push (opening rules base) (with_room rules base log) (entry_swap rules base (with_room rules base log) entry)
      ∙ ap (λ (t : State). with_entry limits_of_a_board rules base t entry) (room_state log)
      ∙ sym (ap (λ (p : State × Reply). p.0) (accepted rules base s entry not_refused))

  pub folded_law : FoldedLaw rules base
  folded_law log plan there =
      after_push (opening rules base) log (fold_swap plan)
      ∙ sym (ap (λ (o : Option ℕ). (commit_over limits_of_a_board rules base o plan (state_after rules base log)).0) there)
