-- A section: its tree, then a block for each leaf.
use Rattle.std.proofs.Common.{◌≡◌, ℕ, ◌+◌, ◌≤◌, false, List, [], ◌∷◌, ◌++◌, length, map, flat_map, Option, Some, None, Result, Ok, refl, sym, ap, subst, ◌∙◌, length-append, append-nil, append_assoc, arith}
use Rattle.std.specs.Prelude.{filter_map}
use Rattle.std.proofs.lemmas.Bool.{eq-eqb}
use Rattle.obf_wire.specs.declared.field.Field.{Field}
use Rattle.obf_wire.specs.declared.file.FileBreak.{FileBreak}
use Rattle.obf_wire.specs.declared.file.FileKind.TheVariants.{BadPlace}
use Rattle.obf_wire.specs.Fields.{Window, IsWindow}
use Rattle.file_grammar.specs.declared.parts.Boxed.{Boxed}
use Rattle.file_grammar.specs.declared.parts.Part.TheVariants.{Block as BlockPart, Boxes, Tree}
use Rattle.file_grammar.specs.BoxRules.{Beside, Boxing, block_facts, first_place, leaf_facts, node_facts, paired_facts, section_facts}
use Rattle.file_grammar.specs.Facts.{AllHold, Fact, fact}
use Rattle.file_grammar.specs.Messages.{Fields, ends, has_message}
use Rattle.file_grammar.specs.Readings.{message_from}
use Rattle.file_grammar.specs.Sections.{Block, BoxNode, Placed, placed, block_with, leaves_in, messages_in, nodes_in}
use Rattle.file_grammar.specs.Sections.{Leaf as LeafOf}
use Rattle.boxed_exact.specs.declared.edges.Edges.{Edges}
use Rattle.boxed_exact.specs.declared.nodes.LeafSeen.{LeafSeen}
use Rattle.boxed_check.specs.Blocks.{IsGoodBlock}
use Rattle.obf_wire.specs.KnownKeys.{StandsFirst}
use Rattle.boxed_check.specs.Nodes.{IsGoodNode}
use Rattle.boxed_exact.specs.Nodes.{shown}
use Rattle.boxed_exact.specs.Boxes.{box_of}
use Rattle.boxed_check.specs.Sections.{AreBlocksSeen, BeginsAt, BlocksLeft, IsGoodTree}
use Rattle.boxed_check.specs.Keeping.{AreSpans, IsKept, blocks_of, entries_of}
use Rattle.boxed_check.specs.declared.kept.Kept.{Kept}
use Rattle.boxed_exact.specs.declared.fields.Payload.{Payload}
use Rattle.boxed_exact.specs.Pairs.{leaf_of}
use Rattle.boxed_check.specs.Leaves.{AreBoxes, boxes_of}
use Rattle.boxed_check.proofs.BlockWalk.{all_append}
use Rattle.boxed_check.proofs.LeafBoxes.{tree_same}
use Rattle.file_grammar.proofs.Built.{ends_there, message_before}

abbrev at_place : Window → ℕ → Window
at_place w next = record w { place = next }

abbrev fields_ok : Fields → Result Fields FileBreak
fields_ok x = Ok x

-- ---- the tree

pub tree_none : (w : Window) (leaves : List LeafSeen) → IsWindow w → w.end ≤ w.place → IsGoodTree w leaves leaves
tree_none w leaves window none = record { fields = ends; read = ends_there Tree None w window none refl; facts = tt; leaves = sym (append-nil leaves) }

pub tree_some : (w : Window) (edges : Edges) (before after : List LeafSeen) → IsGoodNode Tree w edges before after → IsGoodTree w before after
tree_some w edges before after g = record { fields = g.fields; read = g.read; facts = g.facts; leaves = g.leaves }

-- ---- blocks

-- where a block stands, as it is kept
abbrev span_of : Field → Payload
span_of f = record { at = f.at; from = f.from; to = f.to }

kept_one : {A B : Type 0} (f : A → Option B) (x : A) (xs : List A) (y : B) → f x ≡ Some y → filter_map f (x ∷ xs) ≡ y ∷ filter_map f xs
kept_one f x xs y e = rw e refl

module _ (class : Boxed) (boxing : Boxing) (beside : Beside) where
  pub blocks_end : (w : Window) (start count : ℕ) (blocks : List Payload) → IsWindow w → w.place ≡ w.end → BlocksLeft class boxing beside w start [] blocks blocks count count
  blocks_end w start count blocks window none = record {
    fields = ends;
    read = ends_there (Boxes class) (Some 22) w window (omega (arith, none)) refl;
    pairs = tt;
    facts = tt;
    begins = tt;
    spans = [];
    added = sym (append-nil blocks);
    spans_are = tt;
    count_is = omega arith;
  }

  pub blocks_on : (w : Window) (start : ℕ) (leaf : LeafSeen) (leaves : List LeafSeen) (f : Field) (before after : List Payload) (records count total : ℕ) → IsWindow w → StandsFirst w 22 f → f.at ≡ w.place → start + leaf.place.value ≡ f.at
      → IsGoodBlock class boxing beside (box_of leaf.edges) (record { bytes = w.bytes; place = f.from; end = f.to }) f.at records
      → BlocksLeft class boxing beside (at_place w f.to) start leaves (before ++ span_of f ∷ []) after (count + records) total → BlocksLeft class boxing beside w start (leaf ∷ leaves) before after count total
  blocks_on w start leaf leaves f before after records count total window read here named g l =
      let payload : IsWindow (record { bytes = w.bytes; place = f.from; end = f.to }) = record { ordered = read.inside.ordered; within = omega (arith, read.inside.ends, window.within) } in
      let list : g.block ∷ blocks_of l.fields ≡ blocks_of (has_message f.at 22 g.fields l.fields) = sym (kept_one (λ (m : Placed Fields). block_with m.at m.value) (placed f.at g.fields) (messages_in l.fields) g.block g.is) in
      record {
        fields = has_message f.at 22 g.fields l.fields;
        read = message_before (Boxes class) (Some 22) w 22 (BlockPart class) f g.fields l.fields window refl refl read g.read l.read;
        pairs = subst (λ (bs : List Block). AllHold (paired_facts boxing beside start (map leaf_of (leaf ∷ leaves)) bs)) list
            (all_append (leaf_facts boxing beside start (leaf_of leaf) g.block) (paired_facts boxing beside start (map leaf_of leaves) (blocks_of l.fields)) (eq-eqb (start + leaf.place.value) g.block.at (named ∙ sym g.at_is), (g.points, tt)) l.pairs);
        facts = subst (λ (bs : List Block). AllHold (flat_map (block_facts boxing beside) bs)) list (all_append (block_facts boxing beside g.block) (flat_map (block_facts boxing beside) (blocks_of l.fields)) g.facts l.facts);
        begins = subst (BeginsAt w.place) list (g.at_is ∙ here);
        spans = span_of f ∷ l.spans;
        added = l.added ∙ append_assoc before (span_of f ∷ []) l.spans;
        spans_are = subst (AreSpans class w.bytes (span_of f ∷ l.spans)) list (record { inside = payload; fields = g.fields; read = g.read; is = g.is }, l.spans_are);
        count_is = subst (λ (bs : List Block). count + length (entries_of bs) ≡ total) list (omega (arith, g.count_is, l.count_is, length-append g.block.entries (entries_of (blocks_of l.fields))));
      }

  -- ---- a whole section

  unnamed_same : (leaves : List LeafOf) → map (λ (l : LeafOf). fact l.place.at BadPlace false) (map leaf_of (map shown leaves)) ≡ map (λ (l : LeafOf). fact l.place.at BadPlace false) leaves
  unnamed_same [] = refl
  unnamed_same (leaf ∷ leaves) = ap (λ (fs : List Fact). fact leaf.place.at BadPlace false ∷ fs) (unnamed_same leaves)

  paired_same : (start : ℕ) (leaves : List LeafOf) (blocks : List Block) → paired_facts boxing beside start (map leaf_of (map shown leaves)) blocks ≡ paired_facts boxing beside start leaves blocks
  paired_same start [] blocks = refl
  paired_same start (leaf ∷ leaves) [] = ap (λ (fs : List Fact). fact leaf.place.at BadPlace false ∷ fs) (unnamed_same leaves)
  paired_same start (leaf ∷ leaves) (block ∷ blocks) = ap (λ (fs : List Fact). leaf_facts boxing beside start leaf block ++ fs) (paired_same start leaves blocks)

  no_leaves : (start other : ℕ) (leaves : List LeafOf) (blocks : List Block) → blocks ≡ [] → AllHold (paired_facts boxing beside start leaves blocks) → AllHold (paired_facts boxing beside other leaves blocks)
  no_leaves start other [] [] e h = tt
  no_leaves start other (leaf ∷ leaves) [] e h = h
  no_leaves start other leaves (block ∷ blocks) e h = absurd cc

  -- the places are told from the first block on
  from_first : (start : ℕ) (leaves : List LeafOf) (blocks : List Block) → BeginsAt start blocks → AllHold (paired_facts boxing beside start leaves blocks) → AllHold (paired_facts boxing beside (first_place boxing beside blocks) leaves blocks)
  from_first start leaves [] b h = no_leaves start 0 leaves [] refl h
  from_first start leaves (block ∷ blocks) b h = subst (λ (n : ℕ). AllHold (paired_facts boxing beside n leaves (block ∷ blocks))) (sym b) h

  blocks_again : (w : Window) (fields : Fields) → message_from (Boxes class) (Some 22) w ≡ fields_ok fields → message_from (Boxes class) (Some 14) w ≡ fields_ok fields
  unfolding message_from
  blocks_again w fields e = e

  pub section_is : (w : Window) (tree : Field) (kept : Kept) → IsWindow w → StandsFirst w 14 tree → IsGoodTree (record { bytes = w.bytes; place = tree.from; end = tree.to }) [] kept.leaves.items
      → AreBlocksSeen class boxing beside (at_place w tree.to) kept.leaves.items [] kept.blocks.items kept.records → (AreBoxes kept.leaves.items → kept.tree ≡ boxes_of kept.leaves.items) → IsKept class boxing beside w kept
  unfolding section_facts
  section_is w tree kept window read t b over =
      let own : List BoxNode = nodes_in t.fields in
      let blocks : List Block = blocks_of b.fields in
      let pairs : List Fact = paired_facts boxing beside (first_place boxing beside blocks) (leaves_in own) blocks in
      let named : AllHold (paired_facts boxing beside tree.to (leaves_in own) blocks) = subst AllHold (paired_same tree.to (leaves_in own) blocks) (subst (λ (ls : List LeafSeen). AllHold (paired_facts boxing beside tree.to (map leaf_of ls) blocks)) t.leaves b.pairs) in
      record {
        fields = has_message tree.at 14 t.fields b.fields;
        read = message_before (Boxes class) None w 14 Tree tree t.fields b.fields window refl refl read t.read (blocks_again (at_place w tree.to) b.fields b.read);
        sound = all_append (flat_map node_facts own ++ pairs) (flat_map (block_facts boxing beside) blocks) (all_append (flat_map node_facts own) pairs t.facts (from_first tree.to (leaves_in own) blocks b.begins named)) b.facts;
        leaves = t.leaves;
        tree = tree_same own kept.leaves.items kept.tree t.facts t.leaves over;
        blocks = subst (λ (ss : List Payload). AreSpans class w.bytes ss blocks) (sym b.added) b.spans_are;
        records = omega (arith, b.count_is);
      }
