-- What a desk keeps beside what it publishes.
use Rattle.std.specs.Prelude.{◌≡◌, ℕ, List, [], ◌∷◌, ◌++◌, length}
use Rattle.live_model.specs.declared.objects.Entity.{Entity}
use Rattle.live_model.specs.declared.objects.Line.{Line}
use Rattle.live_model.specs.declared.rules.Rule.{Rule}
use Rattle.live_model.specs.Ids.{Id}
use Rattle.live_model.specs.Maps.{published}
use Rattle.live_model.specs.Stores.{apply}
use Rattle.ref_index.specs.Indexes.{Indexes}
use Rattle.logbook.specs.Pages.{Book}
use Rattle.overlay_set.specs.Sets.{State, lines_of}
use Rattle.overlay_set.specs.Swaps.{Swap}
use Rattle.published_set.specs.declared.ops.SetOp.{SetOp}
use Rattle.published_set.specs.Ops.{swap_of}
use Rattle.board_journal.specs.declared.shown.Change.{Change}
use Rattle.board_journal.specs.Journals.{IsBoardJournal}

-- how many publications came in, the store after them, and the index of that store
pub record Agrees (base : List Line) (s : State) (total : ℕ) (store : List Entity) (index : List (ℕ × List Id)) : Type 0 where
  pub counted : total ≡ length s.history
  pub stored : store ≡ published (apply [] base) (lines_of s.history)
  pub indexed : Indexes index store

-- the change of an operation that comes after this journal
pub record IsChangeOf (book : Book) (rules : List Rule) (base : List Line) (log : List Swap) (op : SetOp) (c : Change) : Type 0 where
  pub op_is : c.op ≡ op
  pub here : c.at ≡ length log
  pub book_is : c.after.book ≡ book
  pub longer : c.after.log ≡ log ++ swap_of op ∷ []
  pub length_is : c.next ≡ length c.after.log
  pub journal : IsBoardJournal rules base c.after.log
