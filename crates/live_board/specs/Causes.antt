-- Why publications and folds are refused: what holds of the state of the receipt.
use Rattle.std.specs.Prelude.{◌≡◌, ℕ, List, length, Option, Some, None}
use Rattle.live_model.specs.declared.objects.Line.{Line}
use Rattle.live_model.specs.declared.rules.Rule.{Rule}
use Rattle.stamp_core.specs.Hours.{CivilHour}
use Rattle.overlay_set.specs.Machines.{Reply, Late, HistoryFull, FilesFull, limits_of_a_board, refused}
use Rattle.overlay_set.specs.Swaps.{FoldPlan, Swap, missing}
use Rattle.board_journal.specs.Journals.{state_after}
use Rattle.live_board.specs.declared.causes.PublishError.{PublishError}
use Rattle.live_board.specs.declared.causes.PublishError.TheVariants as error
use Rattle.live_board.specs.declared.causes.FoldRefused.{FoldRefused}
use Rattle.live_board.specs.declared.causes.FoldRefused.TheVariants as fold

module _ (rules : List Rule) (base : List Line) where
  -- the state after the journal answers a publication of this hour so
  abbrev pub Answers : CivilHour → List Swap → Reply → Type 0
  Answers stamp log reply = refused limits_of_a_board rules base (state_after rules base log) stamp ≡ Some reply

  -- how many publications its history has
  abbrev pub front_of : List Swap → ℕ
  front_of log = length (state_after rules base log).history

  -- the cause is the first that holds in the state of the receipt
  abbrev pub IsRefusal : CivilHour → PublishError (List Swap) → Type 0
  IsRefusal stamp error.NoMemory = Unit {0}
  IsRefusal stamp (error.Late r last) = Answers stamp r (Late (front_of r) last)
  IsRefusal stamp (error.HistoryFull r) = Answers stamp r (HistoryFull (front_of r))
  IsRefusal stamp (error.FilesFull r) = Answers stamp r (FilesFull (front_of r))

  -- the state of the receipt lacks a file of the plan, of which this is the first
  abbrev pub IsOvertaken : FoldPlan → FoldRefused (List Swap) → Type 0
  IsOvertaken plan fold.NoMemory = Unit {0}
  IsOvertaken plan (fold.Overtaken r file) = missing plan (state_after rules base r) ≡ Some file

-- the receipt, if there is one
abbrev pub receipt_of : PublishError (List Swap) → Option (List Swap)
receipt_of error.NoMemory = None
receipt_of (error.Late r last) = Some r
receipt_of (error.HistoryFull r) = Some r
receipt_of (error.FilesFull r) = Some r

abbrev pub overtaken_receipt : FoldRefused (List Swap) → Option (List Swap)
overtaken_receipt fold.NoMemory = None
overtaken_receipt (fold.Overtaken r file) = Some r
