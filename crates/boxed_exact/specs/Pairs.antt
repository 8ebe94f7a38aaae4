-- Leaves and the blocks that they name.
use Rattle.std.specs.Prelude.{◌≡◌, ℕ, List, [], ◌∷◌, ◌++◌, false, Option, Some, None}
use Rattle.obf_wire.specs.declared.file.FileBreak.{FileBreak}
use Rattle.obf_wire.specs.declared.file.FileKind.TheVariants.{BadPlace}
use Rattle.file_grammar.specs.BoxRules.{Beside, Boxing, block_facts, leaf_facts}
use Rattle.file_grammar.specs.Facts.{Fact, fact, earlier, first_failing}
use Rattle.file_grammar.specs.Messages.{Fields, ends, has_message}
use Rattle.file_grammar.specs.Sections.{Block, Leaf, block_with}
use Rattle.boxed_exact.specs.declared.nodes.LeafSeen.{LeafSeen}
use Rattle.boxed_exact.specs.Boxes.{box_of}

-- messages behind the key of blocks
abbrev pub AreBlocks : Fields → Type 0
AreBlocks ends = Unit {0}
AreBlocks (has_message at key inner rest) = (key ≡ 22) × AreBlocks rest
AreBlocks fields = ⊥

-- a leaf of which nothing but its box and its place is told
abbrev pub leaf_of : LeafSeen → Leaf
leaf_of leaf = record { node = record { at = leaf.at; box = box_of leaf.edges; below = ends }; place = record { at = leaf.place.at; value = leaf.place.value } }

-- the place, or this one where there is none yet
abbrev pub place_or : Option ℕ → ℕ → ℕ
place_or None at = at
place_or (Some place) at = place

-- what has to hold of a block and the first of these leaves, or of a block that no leaf names
abbrev pub pair_facts : Boxing → Beside → ℕ → List LeafSeen → Block → List Fact
pair_facts boxing beside start [] block = fact block.at BadPlace false ∷ []
pair_facts boxing beside start (leaf ∷ leaves) block = leaf_facts boxing beside start (leaf_of leaf) block

-- the block of these fields and its leaf were asked
pub record IsPairChecked (boxing : Boxing) (beside : Beside) (at start : ℕ) (leaves : List LeafSeen) (fields : Fields) (old new : Option FileBreak) : Type 0 where
  pub block : Block
  pub is : block_with at fields ≡ Some block
  pub asked : new ≡ earlier old (first_failing (pair_facts boxing beside start leaves block ++ block_facts boxing beside block))
