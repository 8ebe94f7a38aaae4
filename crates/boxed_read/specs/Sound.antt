-- Parts of a section in which every rule holds.
use Rattle.std.specs.Prelude.{◌≡◌, ◌≤◌, ℕ, List, length, flat_map, true, Option, Some, Ok}
use Rattle.std.specs.List.{AllByRecursion, list_all}
use Rattle.obf_wire.specs.Fields.{Window, IsWindow, part_of}
use Rattle.file_grammar.specs.declared.parts.Boxed.{Boxed}
use Rattle.file_grammar.specs.declared.parts.Part.TheVariants.{Block as BlockPart, Record, Texts}
use Rattle.coord_delta.specs.Steps.{Place, places_from}
use Rattle.file_grammar.specs.BoxRules.{Beside, Boxing, block_facts, is_on_grid, with_before}
use Rattle.file_grammar.specs.Facts.{AllHold}
use Rattle.file_grammar.specs.Messages.{Fields}
use Rattle.file_grammar.specs.Readings.{message_at, numbers_at}
use Rattle.file_grammar.specs.Sections.{Block, Entry, block_with, entries_from, messages_in, texts_in}
use Rattle.file_grammar.specs.Walks.{Standing, left_in}
use Rattle.boxed_exact.specs.declared.fields.Payload.{Payload}
use Rattle.boxed_exact.specs.Records.{AreRecords}
use Rattle.boxed_laws.specs.Classes.{PassUtf8}
use Rattle.boxed_check.specs.declared.kept.Kept.{Kept}
use Rattle.boxed_check.specs.Keeping.{IsKept}

-- a block that has the texts in a window, each of them UTF-8, beside a table of rules
pub record Amid (texts : Window) : Type 0 where
  pub beside : Beside
  pub few : length beside.rules ≤ 100000
  pub block : Block
  pub named : Fields
  pub read : message_at Texts texts ≡ Ok named
  pub are : block.texts ≡ texts_in named
  pub utf8 : PassUtf8 block.texts

module _ (class : Boxed) (boxing : Boxing) where
  -- the window holds a record of this ordinal, of which every rule holds in a block with these texts
  pub record IsSoundRecord (texts w : Window) (ordinal : ℕ) : Type 0 where
    pub amid : Amid texts
    pub prev : Option Entry
    pub entry : Entry
    pub ordinal_is : entry.ordinal ≡ ordinal
    pub read : message_at (Record class) w ≡ Ok entry.fields
    pub facts : AllHold (boxing.facts amid.beside amid.block (prev, entry))

  -- such records are left of a block with these texts, after one of this ordinal
  pub record AreSoundLeft (texts : Window) (before : ℕ) (s : Standing) : Type 0 where
    pub part : s.part ≡ BlockPart class
    pub window : IsWindow s.window
    pub amid : Amid texts
    pub prev : Option Entry
    pub fields : Fields
    pub left : left_in s ≡ Ok fields
    pub are : AreRecords fields
    pub facts : AllHold (flat_map (boxing.facts amid.beside amid.block) (with_before prev (entries_from before (messages_in fields))))

  -- the window holds a block of which every rule holds
  pub record HoldsBlock (w : Window) : Type 0 where
    pub inside : IsWindow w
    pub beside : Beside
    pub few : length beside.rules ≤ 100000
    pub at : ℕ
    pub fields : Fields
    pub read : message_at (BlockPart class) w ≡ Ok fields
    pub block : Block
    pub is : block_with at fields ≡ Some block
    pub facts : AllHold (block_facts boxing beside block)

  -- each of these ranges does
  abbrev pub HoldBlocks : List ℕ → List Payload → Type 0
  HoldBlocks bytes spans = AllByRecursion (λ span. HoldsBlock (part_of bytes span.from span.to)) spans

  -- a check found that every rule holds of the section in a window, and left this of it
  pub record IsChecked (w : Window) (kept : Kept) : Type 0 where
    pub beside : Beside
    pub few : length beside.rules ≤ 100000
    pub is : IsKept class boxing beside w kept

-- the window holds steps that lead from a place to places on the grid
pub record HoldsSteps (from : Place) (w : Window) : Type 0 where
  pub numbers : List ℕ
  pub read : numbers_at w ≡ Ok numbers
  pub on_grid : list_all is_on_grid (places_from from numbers) ≡ true
