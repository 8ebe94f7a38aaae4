-- The fields of trees: they are spelled as a writer packs them and of the form of trees, every rule of nodes holds, and their leaves
-- are those that they were built over.
use Rattle.std.proofs.Common.{◌≡◌, ℕ, zero, suc, ◌^◌, ◌<◌, ◌≤◌, Bool, true, List, [], ◌∷◌, ◌++◌, length, map, Option, Some, None, refl, sym, ap, subst, ◌∙◌, arith, append_assoc}
use Rattle.std.specs.Prelude.{flat_map, filter_map, ◌&&◌}
use Rattle.std.specs.List.{AllByRecursion, list_all, cons_option}
use Rattle.std.proofs.lemmas.Bool.{and_from, le-leb}
use Rattle.std.proofs.lemmas.List.{length-map, map-append}
use Rattle.std.proofs.lemmas.List.Elements.{filter_map-append}
use Rattle.live_model.specs.declared.points.Rect.{Rect}
use Rattle.obf_wire.specs.Fields.{section}
use Rattle.box_tree.specs.Trees.{Holds, around}
use Rattle.file_grammar.specs.declared.parts.Part.TheVariants.{Tree, Node}
use Rattle.file_grammar.specs.Messages.{Fields, inside, beyond}
use Rattle.file_grammar.specs.Facts.{AllHold}
use Rattle.file_grammar.specs.Sections.{messages_in, messages_within, BoxNode, node_in, nodes_in, children_of, Leaf, leaf_with, leaves_in}
use Rattle.file_grammar.specs.BoxRules.{is_box, holds_box, node_facts}
use Rattle.obf_wire.specs.Fields.{number_field}
use Rattle.boxed_write.specs.Packed.{edges, leaf, node_above, Node as PackedNode}
use Rattle.boxed_laws.specs.Bare.{Bare, no_more, a_number, a_message, bytes_of, stood, AreFormed}
use Rattle.boxed_laws.proofs.BlockTexts.{all_join}
use Rattle.boxed_laws.specs.Classes.{IsBox}
use Rattle.boxed_laws.proofs.BoxesAround.{around_each, box_test, inside_test}

-- ---- the fields

abbrev pub with_edges : Rect → Bare → Bare
with_edges box below = a_number 8 box.left (a_number 16 box.top (a_number 24 box.right (a_number 32 box.bottom below)))

-- a node: its box, its fields, and the boxes and places of the leaves below it
pub record Built : Type 0 where
  pub box : Rect
  pub bare : Bare
  pub leaves : List (Rect × ℕ)

abbrev pub built_leaf : ℕ → Rect → Built
built_leaf place box = record { box = box; bare = with_edges box (a_number 40 place no_more); leaves = (box, place) ∷ [] }

-- nodes in order
abbrev pub below_nodes : List Built → Bare
below_nodes [] = no_more
below_nodes (n ∷ ns) = a_message 54 n.bare (below_nodes ns)

abbrev pub boxes_of : List Built → List Rect
boxes_of ns = map (λ n. n.box) ns

abbrev pub built_above : List Built → Built
built_above ns = record { box = around (boxes_of ns); bare = with_edges (around (boxes_of ns)) (below_nodes ns); leaves = flat_map (λ n. n.leaves) ns }

-- ---- their bytes

abbrev pub packed_node : Built → PackedNode
packed_node n = (n.box, bytes_of n.bare)

edges_bytes : (box : Rect) (below : Bare) → bytes_of (with_edges box below) ≡ edges box ++ bytes_of below
edges_bytes box below =
    sym (append_assoc (number_field 1 box.left ++ number_field 2 box.top ++ number_field 3 box.right) (number_field 4 box.bottom) (bytes_of below)
    ∙ append_assoc (number_field 1 box.left ++ number_field 2 box.top) (number_field 3 box.right) (number_field 4 box.bottom ++ bytes_of below)
    ∙ append_assoc (number_field 1 box.left) (number_field 2 box.top) (number_field 3 box.right ++ (number_field 4 box.bottom ++ bytes_of below)))

below_bytes : (ns : List Built) → bytes_of (below_nodes ns) ≡ flat_map (λ node. section 6 node.1) (map packed_node ns)
below_bytes [] = refl
below_bytes (n ∷ ns) = ap (λ (t : List ℕ). section 6 (bytes_of n.bare) ++ t) (below_bytes ns)

boxes_are : (ns : List Built) → boxes_of ns ≡ map (λ (node : PackedNode). node.0) (map packed_node ns)
boxes_are [] = refl
boxes_are (n ∷ ns) = ap (λ (bs : List Rect). n.box ∷ bs) (boxes_are ns)

abbrev node_of : Rect → List ℕ → PackedNode
node_of box below = (box, edges box ++ below)

abbrev pair_of : Rect → List ℕ → PackedNode
pair_of box bytes = (box, bytes)

pub above_is : (ns : List Built) → packed_node (built_above ns) ≡ node_above (map packed_node ns)
above_is ns =
    ap (pair_of (around (boxes_of ns))) (edges_bytes (around (boxes_of ns)) (below_nodes ns) ∙ ap (λ (t : List ℕ). edges (around (boxes_of ns)) ++ t) (below_bytes ns))
    ∙ ap (λ (bs : List Rect). node_of (around bs) (flat_map (λ node. section 6 node.1) (map packed_node ns))) (boxes_are ns)

pub leaf_is : (place : ℕ) (box : Rect) → packed_node (built_leaf place box) ≡ leaf place box
leaf_is place box = ap (pair_of box) (edges_bytes box (a_number 40 place no_more) ∙ ap (λ (t : List ℕ). edges box ++ t) (nothing_behind (number_field 5 place)))
  where
    nothing_behind : (t : List ℕ) → t ++ [] ≡ t
    nothing_behind [] = refl
    nothing_behind (b ∷ bs) = ap (λ (t : List ℕ). b ∷ t) (nothing_behind bs)

-- ---- where they stand

-- a node is read with its box
pub record IsRead (bare : Bare) (box : Rect) (at : ℕ) : Type 0 where
  pub below : Fields
  pub is : node_in (stood at bare) ≡ Some (record { at = at; box = box; below = below })

abbrev pub pair_in : Leaf → Rect × ℕ
pair_in l = (l.node.box, l.place.value)

-- the node, its rules, and its leaves
pub record Stands (n : Built) (at : ℕ) : Type 0 where
  pub node : IsRead n.bare n.box at
  pub facts : AllHold (flat_map node_facts (nodes_in (stood at n.bare)))
  pub leaves : map pair_in (leaves_in (nodes_in (stood at n.bare))) ≡ n.leaves

-- the nodes inside fields
abbrev nodes_inside : Fields → List BoxNode
nodes_inside fields = filter_map node_in (messages_within fields)

abbrev Nodes : Type 0
Nodes = List BoxNode

facts_join : (xs ys : Nodes) → AllHold (flat_map node_facts xs) → AllHold (flat_map node_facts ys) → AllHold (flat_map node_facts (xs ++ ys))
facts_join [] ys a b = b
facts_join (x ∷ xs) ys a b = (a.0, (a.1.0, facts_join xs ys a.1.1 b))

leaves_join : (xs ys : Nodes) → map pair_in (leaves_in (xs ++ ys)) ≡ map pair_in (leaves_in xs) ++ map pair_in (leaves_in ys)
leaves_join xs ys =
    ap (map pair_in) (filter_map-append (λ (node : BoxNode). leaf_with node node.below) xs ys) ∙ map-append pair_in (leaves_in xs) (leaves_in ys)

abbrev pub StandAll : List Built → Type 0
StandAll ns = AllByRecursion (λ n. (at : ℕ) → Stands n at) ns

-- the place of the payload of a node, and the place behind it
abbrev payload_at : ℕ → Built → ℕ
payload_at at n = inside at 54 (length (bytes_of n.bare))

abbrev behind_at : ℕ → Built → ℕ
behind_at at n = beyond at 54 (length (bytes_of n.bare))

inside_more : (n : Built) (ns : List Built) (at : ℕ) → nodes_inside (stood at (below_nodes (n ∷ ns))) ≡ nodes_in (stood (payload_at at n) n.bare) ++ nodes_inside (stood (behind_at at n) (below_nodes ns))
inside_more n ns at =
    filter_map-append node_in (stood (payload_at at n) n.bare ∷ messages_within (stood (payload_at at n) n.bare)) (messages_within (stood (behind_at at n) (below_nodes ns)))

inside_hold : (ns : List Built) (at : ℕ) → StandAll ns → AllHold (flat_map node_facts (nodes_inside (stood at (below_nodes ns))))
inside_hold [] at all = tt
inside_hold (n ∷ ns) at all =
    subst (λ (nodes : Nodes). AllHold (flat_map node_facts nodes)) (sym (inside_more n ns at))
    (facts_join (nodes_in (stood (payload_at at n) n.bare)) (nodes_inside (stood (behind_at at n) (below_nodes ns))) (all.0 (payload_at at n)).facts (inside_hold ns (behind_at at n) all.1))

inside_leaves : (ns : List Built) (at : ℕ) → StandAll ns → map pair_in (leaves_in (nodes_inside (stood at (below_nodes ns)))) ≡ flat_map (λ n. n.leaves) ns
inside_leaves [] at all = refl
inside_leaves (n ∷ ns) at all =
    ap (λ (nodes : Nodes). map pair_in (leaves_in nodes)) (inside_more n ns at)
    ∙ leaves_join (nodes_in (stood (payload_at at n) n.bare)) (nodes_inside (stood (behind_at at n) (below_nodes ns)))
    ∙ ap (λ (ls : List (Rect × ℕ)). ls ++ map pair_in (leaves_in (nodes_inside (stood (behind_at at n) (below_nodes ns))))) (all.0 (payload_at at n)).leaves
    ∙ ap (λ (ls : List (Rect × ℕ)). n.leaves ++ ls) (inside_leaves ns (behind_at at n) all.1)

-- the nodes directly below
abbrev nodes_directly : Fields → Nodes
nodes_directly below = filter_map (λ m. node_in m.value) (messages_in below)

abbrev box_in : BoxNode → Rect
box_in node = node.box

children_boxes : (ns : List Built) (at : ℕ) → StandAll ns → map box_in (nodes_directly (stood at (below_nodes ns))) ≡ boxes_of ns
children_boxes [] at all = refl
children_boxes (n ∷ ns) at all =
    ap (λ (o : Option BoxNode). map box_in (cons_option o (nodes_directly (stood (behind_at at n) (below_nodes ns))))) (all.0 (payload_at at n)).node.is
    ∙ ap (λ (bs : List Rect). n.box ∷ bs) (children_boxes ns (behind_at at n) all.1)

held_boxes : (box : Rect) (bs : List Rect) → AllByRecursion (Holds box) bs → list_all (holds_box box) bs ≡ true
held_boxes box [] all = refl
held_boxes box (b ∷ bs) all = and_from (holds_box box b) (list_all (holds_box box) bs) (inside_test box b all.0) (held_boxes box bs all.1)

held_children : (box : Rect) (nodes : Nodes) → list_all (λ child. holds_box box child.box) nodes ≡ list_all (holds_box box) (map box_in nodes)
held_children box [] = refl
held_children box (n ∷ ns) = ap (λ (b : Bool). holds_box box n.box && b) (held_children box ns)

-- the place behind four edges
abbrev behind_edges : ℕ → Rect → ℕ
behind_edges at box = inside (inside (inside (inside at 8 box.left) 16 box.top) 24 box.right) 32 box.bottom

-- the node above some others, as it is read
abbrev above_node : ℕ → List Built → BoxNode
above_node at ns = record { at = at; box = around (boxes_of ns); below = stood (behind_edges at (around (boxes_of ns))) (below_nodes ns) }

above_facts : (ns : List Built) (at : ℕ) → length ns ≤ 8 → IsBox (around (boxes_of ns)) → StandAll ns → AllHold (node_facts (above_node at ns))
above_facts ns at few box all =
    let children = children_boxes ns (behind_edges at (around (boxes_of ns))) all in
    let nodes : Nodes = children_of (above_node at ns) in
    let held : list_all (λ child. holds_box (around (boxes_of ns)) child.box) nodes ≡ true =
    held_children (around (boxes_of ns)) nodes ∙ ap (list_all (holds_box (around (boxes_of ns)))) children ∙ held_boxes (around (boxes_of ns)) (boxes_of ns) (around_each (boxes_of ns)) in
    let count : length nodes ≡ length ns = sym (length-map nodes box_in) ∙ ap length children ∙ length-map ns (λ (n : Built). n.box) in (
      and_from (is_box (around (boxes_of ns))) (list_all (λ child. holds_box (around (boxes_of ns)) child.box) nodes) (box_test (around (boxes_of ns)) box) held,
      (le-leb (length nodes) 8 (omega arith), tt),
    )

no_leaf : (node : BoxNode) (ns : List Built) (at : ℕ) → leaf_with node (stood at (below_nodes ns)) ≡ None
no_leaf node [] at = refl
no_leaf node (n ∷ ns) at = refl

pub above_stands : (ns : List Built) (at : ℕ) → length ns ≤ 8 → IsBox (around (boxes_of ns)) → StandAll ns → Stands (built_above ns) at
above_stands ns at few box all =
    let from : ℕ = behind_edges at (around (boxes_of ns)) in record {
      node = record { below = stood from (below_nodes ns); is = refl };
      facts = all_join (λ f. f.holds ≡ true) (node_facts (above_node at ns)) _ (above_facts ns at few box all) (inside_hold ns from all);
      leaves = ap (λ (o : Option Leaf). map pair_in (cons_option o (leaves_in (nodes_inside (stood from (below_nodes ns)))))) (no_leaf (above_node at ns) ns from)
          ∙ inside_leaves ns from all;
    }

pub leaf_stands : (place : ℕ) (box : Rect) (at : ℕ) → IsBox box → Stands (built_leaf place box) at
leaf_stands place box at good = record {
  node = record { below = stood (behind_edges at box) (a_number 40 place no_more); is = refl };
  facts = (and_from (is_box box) true (box_test box good) refl, (refl, tt));
  leaves = refl;
}

-- ---- their form

-- so many levels stand below the node
pub record IsFormed (height : ℕ) (n : Built) : Type 0 where
  pub as_node : (levels : ℕ) → height ≤ levels → AreFormed (Node levels) None n.bare
  pub as_root : height ≤ 23 → AreFormed Tree None n.bare

-- the edges have 64 bits
record HasEdges (box : Rect) : Type 0 where
  left : box.left < 2 ^ 64
  top : box.top < 2 ^ 64
  right : box.right < 2 ^ 64
  bottom : box.bottom < 2 ^ 64

small_edges : (box : Rect) → IsBox box → HasEdges box
small_edges box b = record {
  left = omega (arith, b.across, b.east);
  top = omega (arith, b.down, b.south);
  right = omega (arith, b.east);
  bottom = omega (arith, b.south);
}

leaf_node : (levels : ℕ) (place : ℕ) (box : Rect) → HasEdges box → place < 2 ^ 64 → AreFormed (Node levels) None (built_leaf place box).bare
leaf_node zero place box e small = (refl, e.left, (refl, e.top, (refl, e.right, (refl, e.bottom, (refl, small, refl)))))
leaf_node (suc levels) place box e small = (refl, e.left, (refl, e.top, (refl, e.right, (refl, e.bottom, (refl, small, refl)))))

pub leaf_formed : (place : ℕ) (box : Rect) → IsBox box → place < 2 ^ 64 → IsFormed 0 (built_leaf place box)
leaf_formed place box b small =
    let e = small_edges box b in record {
      as_node = λ levels le. leaf_node levels place box e small;
      as_root = λ le. (refl, e.left, (refl, e.top, (refl, e.right, (refl, e.bottom, (refl, small, refl)))));
    }

below_formed : (levels height : ℕ) (ns : List Built) → height ≤ levels → AllByRecursion (IsFormed height) ns → AreFormed (Node (suc levels)) (Some 54) (below_nodes ns)
below_formed levels height [] le all = refl
below_formed levels height (n ∷ ns) le all = (refl, all.0.as_node levels le, below_formed levels height ns le all.1)

below_root : (height : ℕ) (ns : List Built) → height ≤ 22 → AllByRecursion (IsFormed height) ns → AreFormed Tree (Some 54) (below_nodes ns)
below_root height [] le all = refl
below_root height (n ∷ ns) le all = (refl, all.0.as_node 22 le, below_root height ns le all.1)

above_node_formed : (levels height : ℕ) (n : Built) (ns : List Built) → suc height ≤ levels → HasEdges (around (boxes_of (n ∷ ns))) → AllByRecursion (IsFormed height) (n ∷ ns) → AreFormed (Node levels) None (built_above (n ∷ ns)).bare
above_node_formed zero height n ns le e all = absurd (omega arith)
above_node_formed (suc levels) height n ns le e all =
    (refl, e.left, (refl, e.top, (refl, e.right, (refl, e.bottom, (refl, all.0.as_node levels (omega arith), below_formed levels height ns (omega arith) all.1)))))

above_root_formed : (height : ℕ) (n : Built) (ns : List Built) → suc height ≤ 23 → HasEdges (around (boxes_of (n ∷ ns))) → AllByRecursion (IsFormed height) (n ∷ ns) → AreFormed Tree None (built_above (n ∷ ns)).bare
above_root_formed height n ns le e all =
    (refl, e.left, (refl, e.top, (refl, e.right, (refl, e.bottom, (refl, all.0.as_node 22 (omega arith), below_root height ns (omega arith) all.1)))))

pub above_formed : (height : ℕ) (ns : List Built) → 0 < length ns → IsBox (around (boxes_of ns)) → AllByRecursion (IsFormed height) ns → IsFormed (suc height) (built_above ns)
above_formed height [] some box all = absurd (omega arith)
above_formed height (n ∷ ns) some box all =
    let e = small_edges (around (boxes_of (n ∷ ns))) box in
    record { as_node = λ levels le. above_node_formed levels height n ns le e all; as_root = λ le. above_root_formed height n ns le e all }
