-- Sections of good form, of which all holds.
use Rattle.std.specs.Prelude.{◌≡◌, ◌+◌, ℕ, List, [], ◌∷◌, ◌++◌, length, map, flat_map, Some, Ok}
use Rattle.obf_wire.specs.Fields.{Window}
use Rattle.file_grammar.specs.declared.parts.Boxed.{Boxed}
use Rattle.file_grammar.specs.declared.parts.Part.TheVariants.{Boxes, Tree}
use Rattle.file_grammar.specs.BoxRules.{Beside, Boxing, block_facts, node_facts, paired_facts}
use Rattle.file_grammar.specs.Facts.{AllHold}
use Rattle.file_grammar.specs.Messages.{Fields}
use Rattle.file_grammar.specs.Readings.{message_at, message_from}
use Rattle.file_grammar.specs.Sections.{Block, leaves_in, nodes_in}
use Rattle.boxed_exact.specs.declared.nodes.LeafSeen.{LeafSeen}
use Rattle.boxed_exact.specs.Nodes.{shown}
use Rattle.boxed_exact.specs.Pairs.{leaf_of}
use Rattle.boxed_exact.specs.declared.fields.Payload.{Payload}
use Rattle.boxed_check.specs.Keeping.{AreSpans, blocks_of, entries_of}

-- the window holds a good tree, and its leaves were added
pub record IsGoodTree (w : Window) (before after : List LeafSeen) : Type 0 where
  pub fields : Fields
  pub read : message_at Tree w ≡ Ok fields
  pub facts : AllHold (flat_map node_facts (nodes_in fields))
  pub leaves : after ≡ before ++ map shown (leaves_in (nodes_in fields))

-- the first block stands here, where there is one
abbrev pub BeginsAt : ℕ → List Block → Type 0
BeginsAt place [] = Unit {0}
BeginsAt place (block ∷ blocks) = block.at ≡ place

module _ (class : Boxed) (boxing : Boxing) (beside : Beside) where
  -- good blocks are left, one for each of these leaves, so that there are so many records in all, and they stand there
  pub record BlocksLeft (w : Window) (start : ℕ) (leaves : List LeafSeen) (before after : List Payload) (count total : ℕ) : Type 0 where
    pub fields : Fields
    pub read : message_from (Boxes class) (Some 22) w ≡ Ok fields
    pub pairs : AllHold (paired_facts boxing beside start (map leaf_of leaves) (blocks_of fields))
    pub facts : AllHold (flat_map (block_facts boxing beside) (blocks_of fields))
    pub begins : BeginsAt w.place (blocks_of fields)
    pub spans : List Payload
    pub added : after ≡ before ++ spans
    pub spans_are : AreSpans class w.bytes spans (blocks_of fields)
    pub count_is : count + length (entries_of (blocks_of fields)) ≡ total

  abbrev pub AreBlocksSeen : Window → List LeafSeen → List Payload → List Payload → ℕ → Type 0
  AreBlocksSeen w leaves before after total = BlocksLeft w w.place leaves before after 0 total
