-- Longer journals lead to later states, and what comes next leaves what is published sound.
use Rattle.std.proofs.Common.{◌≡◌, ℕ, ◌+◌, ◌≤◌, ◌==◌, true, List, [], ◌∷◌, ◌++◌, length, cond, refl, sym, ap, ap₂, subst, ◌∙◌, length-append, arith}
use Rattle.std.specs.List.{AllByRecursion}
use Rattle.std.proofs.lemmas.Bool.Decides.{nat_tests}
use mathlib.Core.List.{IsPrefix}
use Rattle.live_model.specs.declared.objects.Line.{Line}
use Rattle.live_model.specs.declared.rules.Rule.{Rule}
use Rattle.live_model.specs.Stores.{IsStore, apply}
use Rattle.logbook.specs.Pages.{Book}
use Rattle.overlay_set.specs.Sets.{State, age, opening}
use Rattle.overlay_set.specs.SetLaws.{AreGood, IsGoodSwap}
use Rattle.overlay_set.specs.Standing.{Stands}
use Rattle.overlay_set.specs.Swaps.{Swap, IsJournal, IsLater, Takes, after, applied}
use Rattle.overlay_set.proofs.Later.{journal_law}
use Rattle.overlay_set.proofs.Laws.{goes_on, numbers, reached_stands, swaps}
use Rattle.overlay_set.proofs.Stepping.{opening_stands}
use Rattle.overlay_set.proofs.Lists.{all-append}
use Rattle.published_set.specs.Ops.{absorbed, swap_of}
use Rattle.published_set.specs.Sets.{IsStandingOver, PublishedSet}
use Rattle.published_set.proofs.Absorbing.{absorbed_law}
use Rattle.set_events.proofs.Ages.{age_step}
use Rattle.set_events.proofs.Preparing.{base_store}
use Rattle.board_journal.specs.declared.shown.Shown.{Shown}
use Rattle.board_journal.specs.declared.shown.Change.{Change}
use Rattle.board_journal.specs.Journals.{IsBoardJournal, MayCome, state_after}
use Rattle.board_journal.specs.Views.{IsNext, IsSound, swapped}

-- Journals.

-- one swap more
pub after_push : (o : State) (log : List Swap) (swap : Swap) → after o (log ++ swap ∷ []) ≡ applied (after o log) swap
after_push o [] swap = refl
after_push o (x ∷ xs) swap = after_push (applied o x) xs swap

journal_push : (rules : List Rule) (base : List Line) (o : State) (log : List Swap) (swap : Swap) → IsJournal rules base o log → Takes rules base (after o log) swap → IsJournal rules base o (log ++ swap ∷ [])
journal_push rules base o [] swap legal takes = (takes, tt)
journal_push rules base o (x ∷ xs) swap legal takes = (legal.0, journal_push rules base (applied o x) xs swap legal.1 takes)

-- a swap that may come makes a journal of the board
pub journal_grows : (rules : List Rule) (base : List Line) (log : List Swap) (swap : Swap) → IsBoardJournal rules base log → MayCome rules base log swap → IsBoardJournal rules base (log ++ swap ∷ [])
journal_grows rules base log swap journal comes = record {
  good_base = journal.good_base;
  good = all-append (λ s. IsGoodSwap s) log (swap ∷ []) journal.good (comes.good, tt);
  legal = journal_push rules base (opening rules base) log swap journal.legal comes.takes;
}

pub prefix_later : (rules : List Rule) (base : List Line) (xs ys : List Swap) → IsPrefix xs ys → IsLater (state_after rules base xs) (state_after rules base ys)
prefix_later rules base xs ys p = subst (λ l. IsLater (state_after rules base xs) (state_after rules base l)) p.1 (journal_law (opening rules base) xs p.0)

-- What a journal leads to.

-- it stands, over good lines
pub journal_stands : (rules : List Rule) (base : List Line) (log : List Swap) → IsBoardJournal rules base log → IsStandingOver rules base (state_after rules base log)
journal_stands rules base log journal =
    let both = reached_stands rules base (opening rules base) (state_after rules base log) (base_store base journal.good_base) tt (opening_stands rules base)
    (record { swaps = log; good = journal.good; journal = journal.legal; ends = refl }) in
    record { stands = both.0; good_base = journal.good_base; good_history = both.1 }

-- each swap comes under the number above the greatest
ages : (rules : List Rule) (base : List Line) → IsStore (apply [] base) → (s : State) (log : List Swap) → AreGood s.history → Stands rules base s → AllByRecursion IsGoodSwap log → IsJournal rules base s log
    → age (after s log) ≡ age s + length log
ages rules base store s [] good st fine legal = omega arith
ages rules base store s (swap ∷ more) good st fine legal =
    let step = age_step rules base s swap st legal.0 in
    let rest = ages rules base store (applied s swap) more (goes_on s swap good fine.0) (swaps rules base s swap store good st legal.0) fine.1 legal.1 in
    omega (arith, step, rest)

-- so a journal has no more swaps than the greatest number of its state
pub journal_short : (rules : List Rule) (base : List Line) (log : List Swap) → IsBoardJournal rules base log → length (state_after rules base log).history ≤ 65536 → length log ≤ 262144
journal_short rules base log journal few =
    let st : Stands rules base (state_after rules base log) = (journal_stands rules base log journal).stands in
    let aged : age (state_after rules base log) ≡ age (opening rules base) + length log = ages rules base (base_store base journal.good_base) (opening rules base) log tt (opening_stands rules base) journal.good journal.legal in
    omega (arith, numbers rules base (state_after rules base log) st few, aged)

-- What comes next.

-- the set takes in just the swap
absorbed_next : (rules : List Rule) (base : List Line) (x : Shown) (c : Change) (book : Book) → IsSound book rules base x → IsNext book rules base x c
    → absorbed x.set.state (swap_of c.op) ≡ state_after rules base c.after.log
absorbed_next rules base x c book sound next =
    let here : x.set.state ≡ state_after rules base x.seen.log = ap (λ (s : PublishedSet). s.state) sound.set_is in
    let st : Stands rules base x.set.state = subst (λ (s : State). Stands rules base s) (sym here) (journal_stands rules base x.seen.log sound.journal).stands in
    absorbed_law rules base x.set.state (swap_of c.op) st next.room
    ∙ ap (λ (s : State). applied s (swap_of c.op)) here
    ∙ sym (after_push (opening rules base) x.seen.log (swap_of c.op))
    ∙ ap (λ l. state_after rules base l) (sym next.longer)

-- what is known after a change that came next
pub record IsSwapped (book : Book) (rules : List Rule) (base : List Line) (x : Shown) (c : Change) : Type 0 where
  pub sound : IsSound book rules base (swapped x c)
  pub log : (swapped x c).seen.log ≡ c.after.log
  pub grows : IsPrefix x.seen.log (swapped x c).seen.log

pub next_sound : (book : Book) (rules : List Rule) (base : List Line) (x : Shown) (c : Change) → IsSound book rules base x → IsNext book rules base x c → IsSwapped book rules base x c
next_sound book rules base x c sound next =
    let state : State = absorbed x.set.state (swap_of c.op) in
    let y : Shown = record { set = record { base = x.set.base; state = state }; seen = c.after; len = c.next } in
    let here : c.at ≡ x.len = next.here in
    let test : (x.len == c.at) ≡ true = grind (arith, nat_tests) in
    let same : swapped x c ≡ y = ap (λ b. cond b y x) test in
    let set : y.set ≡ record { base = base; state = state_after rules base c.after.log } =
    ap₂ (λ (b : List Line) (s : State). record { base = b; state = s }) (ap (λ (s : PublishedSet). s.base) sound.set_is) (absorbed_next rules base x c book sound next) in
    let there : IsSound book rules base y = record { book_is = next.book_is; length_is = next.length_is; journal = next.journal; set_is = set } in record {
      sound = subst (λ (z : Shown). IsSound book rules base z) (sym same) there;
      log = ap (λ (z : Shown). z.seen.log) same;
      grows = subst (λ (z : Shown). IsPrefix x.seen.log z.seen.log) (sym same) (swap_of c.op ∷ [], sym next.longer);
    }
