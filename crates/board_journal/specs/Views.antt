-- What is published, and what readers know of it.
use Rattle.std.specs.Prelude.{ℕ, ◌≡◌, ◌==◌, if◌then◌else◌, List, [], ◌∷◌, ◌++◌, length}
use mathlib.Core.Option.{some}
use mathlib.Core.List.{IsPrefix}
use lib.ListN.{get_elem?}
use Rattle.live_model.specs.declared.objects.Line.{Line}
use Rattle.live_model.specs.declared.rules.Rule.{Rule}
use Rattle.logbook.specs.Pages.{Book}
use Rattle.published_set.specs.Ops.{HasRoomFor, absorbed, swap_of}
use Rattle.board_journal.specs.declared.view.View.{View}
use Rattle.board_journal.specs.declared.shown.Shown.{Shown}
use Rattle.board_journal.specs.declared.shown.Change.{Change}
use Rattle.board_journal.specs.Journals.{IsBoardJournal, state_after}

-- the set is that after its journal, which is one of the board, in this book
pub record IsSound (book : Book) (rules : List Rule) (base : List Line) (x : Shown) : Type 0 where
  pub book_is : x.seen.book ≡ book
  pub length_is : x.len ≡ length x.seen.log
  pub journal : IsBoardJournal rules base x.seen.log
  pub set_is : x.set ≡ record { base = base; state = state_after rules base x.seen.log }

-- and its journal begins with what each reader has seen
abbrev pub Keeps : Book → List Rule → List Line → Shown → List View → Type 0
Keeps book rules base x views = IsSound book rules base x × ((seat : ℕ) (v : View) → get_elem? views seat ≡ some v → IsPrefix v.seen x.seen.log)

-- what was seen afterwards is the published journal, which begins with what was seen before
abbrev pub Sees : Book → List Rule → List Line → View → Shown → View → Type 0
Sees book rules base v x w = IsSound book rules base x × IsPrefix v.seen x.seen.log × (w.seen ≡ x.seen.log)

-- a reader that has seen no swap
abbrev pub newcomer : View
newcomer = record { seen = [] }

-- the set takes in the operation of a change; one that was made at another length is left out
abbrev pub swapped : Shown → Change → Shown
swapped x c = if (x.len == c.at) then record { set = record { base = x.set.base; state = absorbed x.set.state (swap_of c.op) }; seen = c.after; len = c.next } else x

-- the change comes next: it was made at the present length, its journal has one swap more, and the set has room for that
pub record IsNext (book : Book) (rules : List Rule) (base : List Line) (x : Shown) (c : Change) : Type 0 where
  pub here : c.at ≡ x.len
  pub book_is : c.after.book ≡ book
  pub longer : c.after.log ≡ x.seen.log ++ swap_of c.op ∷ []
  pub length_is : c.next ≡ length c.after.log
  pub journal : IsBoardJournal rules base c.after.log
  pub room : HasRoomFor x.set.state (swap_of c.op)
