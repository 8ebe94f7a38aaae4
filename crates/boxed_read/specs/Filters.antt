-- Filters of records at a rectangle, and what is left of a section under one.
use Rattle.std.specs.Prelude.{◌≡◌, ℕ, List, [], Bool, true, filter, Option}
use Rattle.std.specs.List.{list_all}
use Rattle.live_model.specs.declared.points.Rect.{Rect}
use Rattle.live_model.specs.Points.{overlaps}
use Rattle.file_grammar.specs.BoxRules.{Beside, Boxing, holds_place}
use Rattle.file_grammar.specs.Facts.{AllHold}
use Rattle.file_grammar.specs.Listed.{Reading}
use Rattle.file_grammar.specs.Sections.{Block, Entry}
use Rattle.boxed_read.specs.Meeting.{InBoxes, due}
use Rattle.boxed_read.specs.Steps.{joined}

-- A record of which every rule holds passes only where a box that holds its points meets the rectangle.
abbrev pub PassesOnlyNear : {A : Type 0} → Boxing → (List ℕ → Reading A) → (A → Bool) → Rect → Type 0
PassesOnlyNear boxing reads passing rect =
    (group : List ℕ) (beside : Beside) (block : Block) (prev : Option Entry) (entry : Entry) (box : Rect) → AllHold (boxing.facts beside block (prev, entry))
    → list_all (holds_place box) (boxing.points entry) ≡ true → passing (reads group block entry) ≡ true → overlaps box rect ≡ true

-- what a cursor over records that pass has before it: these, and how many blocks it may still have to read
pub record Hits (A : Type 0) : Type 0 where
  pub records : List A
  pub blocks : ℕ

-- nothing at all
abbrev pub no_hits : {A : Type 0} → Hits A
no_hits = record { records = []; blocks = 0 }

-- the records of a section that pass, in the order of the file, and the blocks that are due
abbrev pub hits : {A : Type 0} → (A → Bool) → Rect → InBoxes A → Hits A
hits passing rect section = record { records = filter passing (joined section.blocks); blocks = due rect section }
