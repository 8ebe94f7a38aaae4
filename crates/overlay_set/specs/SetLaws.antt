-- What holds of states that follow each other, and of sets that stand.
use Rattle.std.specs.Prelude.{◌≡◌, ◌≤◌, List, [], ◌++◌, length, Some, None}
use Rattle.std.specs.List.{AllByRecursion}
use Rattle.live_model.specs.declared.objects.Line.{Line}
use Rattle.live_model.specs.declared.rules.Rule.{Rule}
use Rattle.live_model.specs.Objects.{IsGoodLine}
use Rattle.live_model.specs.Stores.{IsStore, apply}
use Rattle.live_model.specs.declared.queries.Query.{Query}
use Rattle.live_model.specs.Maps.{answer, rebuilt}
use Rattle.overlay_set.specs.Sets.{Entry, State, lines_of, images_of, opening, shown, age}
use Rattle.overlay_set.specs.Periods.{Period, foldable, shrinkable, shape}
use Rattle.overlay_set.specs.Standing.{Stands, AreRising}
use Rattle.overlay_set.specs.Swaps.{FoldPlan, plan_of, Swap, Add, Replace, applied, after, IsJournal, IsLater, Fits, Takes}

-- a state is the later of itself, and later is later still
abbrev pub LaterSelfLaw : Type 0
LaterSelfLaw = (s : State) → IsLater s s

-- later than a later one is later
abbrev pub LaterChainLaw : Type 0
LaterChainLaw = (a b c : State) → IsLater a b → IsLater b c → IsLater a c

-- the state after more of a journal is later, whatever the swaps are
abbrev pub JournalLaw : Type 0
JournalLaw = (s : State) (short more : List Swap) → IsLater (after s short) (after s (short ++ more))

-- a plan that fits goes on to fit
abbrev pub FitsLaterLaw : Type 0
FitsLaterLaw = (plan : FoldPlan) (a b : State) → AreRising b.history → Fits plan a → IsLater a b → Fits plan b

-- the lines of each publication are good
abbrev pub AreGood : List Entry → Type 0
AreGood history = AllByRecursion (AllByRecursion IsGoodLine) (lines_of history)

-- the lines of a publication that comes in are good
abbrev pub IsGoodSwap : Swap → Type 0
IsGoodSwap (Add entry image) = AllByRecursion IsGoodLine entry.lines
IsGoodSwap (Replace plan image) = Unit {0}

-- swaps with good lines that may come, one after another, lead from a to b
pub record IsReached (rules : List Rule) (base : List Line) (a b : State) : Type 0 where
  pub swaps : List Swap
  pub good : AllByRecursion IsGoodSwap swaps
  pub journal : IsJournal rules base a swaps
  pub ends : b ≡ after a swaps

-- a state that is reached is a later one
abbrev pub ReachedLaterLaw : Type 0
ReachedLaterLaw = (rules : List Rule) (base : List Line) (a b : State) → IsReached rules base a b → IsLater a b

-- what is reached from a state that was reached is reached
abbrev pub ReachedChainLaw : Type 0
ReachedChainLaw = (rules : List Rule) (base : List Line) (a b c : State) → IsReached rules base a b → IsReached rules base b c → IsReached rules base a c

-- the base alone stands
abbrev pub OpeningLaw : Type 0
OpeningLaw = (rules : List Rule) (base : List Line) → Stands rules base (opening rules base)

-- over a base that makes a store, a set of good lines stands after each swap that may come
abbrev pub SwapLaw : Type 0
SwapLaw = (rules : List Rule) (base : List Line) (s : State) (swap : Swap) → IsStore (apply [] base) → AreGood s.history
    → Stands rules base s → Takes rules base s swap → Stands rules base (applied s swap)

-- and so it does after a journal
abbrev pub JournalStandsLaw : Type 0
JournalStandsLaw = (rules : List Rule) (base : List Line) (s : State) (swaps : List Swap) → IsStore (apply [] base) → AreGood s.history
    → AllByRecursion IsGoodSwap swaps → Stands rules base s → IsJournal rules base s swaps → Stands rules base (after s swaps)

-- and so does each state that is reached from it, and its lines are good
abbrev pub ReachedStandsLaw : Type 0
ReachedStandsLaw = (rules : List Rule) (base : List Line) (a b : State) → IsStore (apply [] base) → AreGood a.history → Stands rules base a
    → IsReached rules base a b → Stands rules base b × AreGood b.history

-- the plan of what is foldable fits
abbrev pub PlanLaw : Type 0
PlanLaw = (rules : List Rule) (base : List Line) (s : State) (p : Period) → Stands rules base s → foldable s ≡ Some p → Fits (plan_of p s.files) s

-- a set in which nothing is foldable has the settled shape
abbrev pub SettledLaw : Type 0
SettledLaw = (rules : List Rule) (base : List Line) (s : State) → Stands rules base s → foldable s ≡ None → images_of s.files ≡ shape rules base s.history

-- and in one that has it nothing is foldable
abbrev pub ShapedLaw : Type 0
ShapedLaw = (rules : List Rule) (base : List Line) (s : State) → Stands rules base s → images_of s.files ≡ shape rules base s.history → foldable s ≡ None

-- where nothing can be shrunk there are as many files as in the settled shape
abbrev pub FullLaw : Type 0
FullLaw = (rules : List Rule) (base : List Line) (s : State) → Stands rules base s → shrinkable s ≡ None → length s.files ≡ length (shape rules base s.history)

-- of two states of one age the later is the same
abbrev pub SameAgeLaw : Type 0
SameAgeLaw = (rules : List Rule) (base : List Line) (a b : State) → Stands rules base a → Stands rules base b → IsLater a b → age a ≡ age b → a ≡ b

-- the plan of what can be shrunk fits
abbrev pub ShrinkLaw : Type 0
ShrinkLaw = (rules : List Rule) (base : List Line) (s : State) (p : Period) → Stands rules base s → shrinkable s ≡ Some p → Fits (plan_of p s.files) s

-- no number is above four times the greatest length of a history
abbrev pub NumberLaw : Type 0
NumberLaw = (rules : List Rule) (base : List Line) (s : State) → Stands rules base s → length s.history ≤ 65536 → age s ≤ 262144

-- a set that stands shows the map made anew of the base and the history, where the base makes a store and all lines are good
abbrev pub ShownLaw : Type 0
ShownLaw = (rules : List Rule) (base : List Line) (s : State) → IsStore (apply [] base) → AreGood s.history → Stands rules base s
    → shown s.files ≡ rebuilt rules base (lines_of s.history)

-- so each question has the answer of that map
abbrev pub AnswerLaw : Type 0
AnswerLaw = (rules : List Rule) (base : List Line) (s : State) (query : Query) → IsStore (apply [] base) → AreGood s.history → Stands rules base s
    → answer rules query (shown s.files) ≡ answer rules query (rebuilt rules base (lines_of s.history))
