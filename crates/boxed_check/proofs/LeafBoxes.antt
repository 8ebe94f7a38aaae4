-- The leaves of a sound tree have boxes in the grid, and these need no more than 32 bits an edge.
use Rattle.std.proofs.Common.{◌≡◌, ℕ, ◌%◌, ◌^◌, true, List, [], ◌∷◌, ◌++◌, map, flat_map, refl, sym, ap, ◌∙◌, subst, arith}
use Rattle.std.specs.Prelude.{◌&&◌, nat_le}
use Rattle.std.specs.List.{cons_option, list_all}
use Rattle.std.proofs.lemmas.Bool.{and_parts, leb-true}
use Rattle.std.proofs.Math.Nat.{mod-eq_of_lt}
use Rattle.live_model.specs.declared.points.Rect.{Rect}
use Rattle.live_model.proofs.CanonicalBytes.{all_front}
use Rattle.file_grammar.specs.BoxRules.{Beside, Boxing, block_facts, first_place, holds_box, is_box, node_facts, paired_facts, section_facts}
use Rattle.file_grammar.specs.Facts.{AllHold, Fact}
use Rattle.file_grammar.specs.Messages.{Fields, ends, has_number, has_bytes, has_numbers, has_message}
use Rattle.file_grammar.specs.Sections.{BoxNode, Section, children_of, leaf_with, leaves_in}
use Rattle.file_grammar.specs.Sections.{Leaf as LeafOf}
use Rattle.boxed_exact.specs.declared.edges.Edges.{Edges}
use Rattle.boxed_exact.specs.declared.nodes.LeafSeen.{LeafSeen}
use Rattle.boxed_exact.specs.Boxes.{box_of}
use Rattle.boxed_exact.specs.Nodes.{shown}
use Rattle.boxed_check.specs.Leaves.{AreBoxes, boxes_of, narrowed}

-- ---- 32 bits

abbrev rect : ℕ → ℕ → ℕ → ℕ → Rect
rect l t r b = record { left = l; top = t; right = r; bottom = b }

same_box : (a b c d x y z u : ℕ) → a ≡ x → b ≡ y → c ≡ z → d ≡ u → rect a b c d ≡ rect x y z u
same_box a b c d x y z u e f g h = cc

narrow_one : (e : Edges) → is_box (box_of e) ≡ true → narrowed e ≡ box_of e
narrow_one e h =
    let parts = and_parts (nat_le e.left e.right && nat_le e.top e.bottom) (nat_le e.right 3600000000 && nat_le e.bottom 1800000000) h in
    let rise = and_parts (nat_le e.left e.right) (nat_le e.top e.bottom) parts.0 in
    let grid = and_parts (nat_le e.right 3600000000) (nat_le e.bottom 1800000000) parts.1 in
    let across = leb-true e.left e.right rise.0 in
    let down = leb-true e.top e.bottom rise.1 in
    let east = leb-true e.right 3600000000 grid.0 in
    let south = leb-true e.bottom 1800000000 grid.1 in
    same_box (e.left % 2 ^ 32) (e.top % 2 ^ 32) (e.right % 2 ^ 32) (e.bottom % 2 ^ 32) e.left e.top e.right e.bottom (mod-eq_of_lt (omega (arith, across, east))) (mod-eq_of_lt (omega (arith, down, south)))
    (mod-eq_of_lt (omega (arith, east))) (mod-eq_of_lt (omega (arith, south)))

pub all_narrow : (leaves : List LeafSeen) → AreBoxes leaves → map (λ (leaf : LeafSeen). narrowed leaf.edges) leaves ≡ boxes_of leaves
all_narrow [] h = refl
all_narrow (leaf ∷ leaves) h = let one = narrow_one leaf.edges h.0 in let more = all_narrow leaves h.1 in cc

-- ---- boxes

leaf_box : (node : BoxNode) (below : Fields) (leaves : List LeafOf) → is_box node.box ≡ true → AreBoxes (map shown leaves) → AreBoxes (map shown (cons_option (leaf_with node below) leaves))
leaf_box node (has_number at key place rest) leaves good h = (good, h)
leaf_box node ends leaves good h = h
leaf_box node (has_bytes at key value rest) leaves good h = h
leaf_box node (has_numbers at key value rest) leaves good h = h
leaf_box node (has_message at key inner rest) leaves good h = h

pub leaves_are_boxes : (nodes : List BoxNode) → AllHold (flat_map node_facts nodes) → AreBoxes (map shown (leaves_in nodes))
leaves_are_boxes [] h = tt
leaves_are_boxes (node ∷ nodes) h =
    let good = and_parts (is_box node.box) (list_all (λ child. holds_box node.box child.box) (children_of node)) h.0 in
    leaf_box node node.below (leaves_in nodes) good.0 (leaves_are_boxes nodes h.1.1)

-- the leaves as they are held have the boxes of the nodes
pub boxes_same : (leaves : List LeafOf) → boxes_of (map shown leaves) ≡ map (λ (leaf : LeafOf). leaf.node.box) leaves
boxes_same [] = refl
boxes_same (leaf ∷ leaves) = ap (λ (bs : List Rect). leaf.node.box ∷ bs) (boxes_same leaves)

-- a tree over the leaves of a sound tree is over the boxes of its nodes
pub tree_same : (nodes : List BoxNode) (leaves : List LeafSeen) (tree : List Rect) → AllHold (flat_map node_facts nodes) → leaves ≡ map shown (leaves_in nodes) → (AreBoxes leaves → tree ≡ boxes_of leaves)
    → tree ≡ map (λ (leaf : LeafOf). leaf.node.box) (leaves_in nodes)
tree_same nodes leaves tree facts same over =
    over (subst AreBoxes (sym same) (leaves_are_boxes nodes facts)) ∙ ap boxes_of same ∙ boxes_same (leaves_in nodes)

-- what holds of a section holds of its nodes
pub nodes_sound : (boxing : Boxing) (beside : Beside) (s : Section) → AllHold (section_facts boxing beside s) → AllHold (flat_map node_facts s.nodes)
unfolding section_facts
nodes_sound boxing beside s h =
    let nodes : List Fact = flat_map node_facts s.nodes in
    let pairs : List Fact = paired_facts boxing beside (first_place boxing beside s.blocks) (leaves_in s.nodes) s.blocks in
    all_front (λ (f : Fact). f.holds ≡ true) nodes pairs (all_front (λ (f : Fact). f.holds ≡ true) (nodes ++ pairs) (flat_map (block_facts boxing beside) s.blocks) h)
