-- What a check leaves of a section.
use Rattle.std.specs.Prelude.{◌≡◌, ℕ, List, [], ◌∷◌, ◌++◌, length, map, flat_map, Some, Ok}
use Rattle.obf_wire.specs.Fields.{Window, IsWindow}
use Rattle.file_grammar.specs.declared.parts.Boxed.{Boxed}
use Rattle.file_grammar.specs.declared.parts.Part.TheVariants.{Block as BlockPart, Boxes}
use Rattle.file_grammar.specs.BoxRules.{Beside, Boxing, section_facts}
use Rattle.file_grammar.specs.Facts.{AllHold}
use Rattle.file_grammar.specs.Messages.{Fields}
use Rattle.file_grammar.specs.Readings.{message_at}
use Rattle.file_grammar.specs.Sections.{Block, Entry, block_with, blocks_in, leaves_in, messages_in, section_in}
use Rattle.boxed_exact.specs.declared.fields.Payload.{Payload}
use Rattle.boxed_exact.specs.Nodes.{shown}
use Rattle.boxed_check.specs.declared.kept.Kept.{Kept}

-- the blocks in fields of a section
abbrev pub blocks_of : Fields → List Block
blocks_of fields = blocks_in (messages_in fields)

-- the records of blocks, in order
abbrev pub entries_of : List Block → List Entry
entries_of blocks = flat_map (λ b. b.entries) blocks

-- the message of the block stands there among the bytes
pub record IsSpan (class : Boxed) (bytes : List ℕ) (span : Payload) (block : Block) : Type 0 where
  pub inside : IsWindow (record { bytes = bytes; place = span.from; end = span.to })
  pub fields : Fields
  pub read : message_at (BlockPart class) (record { bytes = bytes; place = span.from; end = span.to }) ≡ Ok fields
  pub is : block_with span.at fields ≡ Some block

-- each block stands at its place
abbrev pub AreSpans : Boxed → List ℕ → List Payload → List Block → Type 0
AreSpans class bytes [] [] = Unit {0}
AreSpans class bytes (span ∷ spans) (block ∷ blocks) = IsSpan class bytes span block × AreSpans class bytes spans blocks
AreSpans class bytes spans blocks = ⊥

-- the window holds a section of which every rule holds, with these leaves, a tree over their boxes, blocks that stand there, and so
-- many records
pub record IsKept (class : Boxed) (boxing : Boxing) (beside : Beside) (w : Window) (kept : Kept) : Type 0 where
  pub fields : Fields
  pub read : message_at (Boxes class) w ≡ Ok fields
  pub sound : AllHold (section_facts boxing beside (section_in fields))
  pub leaves : kept.leaves.items ≡ map shown (leaves_in (section_in fields).nodes)
  pub tree : kept.tree ≡ map (λ leaf. leaf.node.box) (leaves_in (section_in fields).nodes)
  pub blocks : AreSpans class w.bytes kept.blocks.items (section_in fields).blocks
  pub records : kept.records ≡ length (entries_of (section_in fields).blocks)

-- these blocks stand at the places that were added, and have so many records
pub record IsSurveyed (class : Boxed) (bytes : List ℕ) (fields : Fields) (before after : List Payload) (count : ℕ) : Type 0 where
  pub spans : List Payload
  pub added : after ≡ before ++ spans
  pub are : AreSpans class bytes spans (blocks_of fields)
  pub counted : count ≡ length (entries_of (blocks_of fields))
