-- Nodes of good form, of which all holds.
use Rattle.std.specs.Prelude.{◌≡◌, ◌+◌, ◌≤◌, ℕ, zero, suc, List, ◌++◌, length, map, flat_map, true, Some, None, Ok}
use Rattle.std.specs.List.{list_all}
use Rattle.live_model.specs.declared.points.Rect.{Rect}
use Rattle.obf_wire.specs.Fields.{Window}
use Rattle.file_grammar.specs.declared.parts.Part.{Part}
use Rattle.file_grammar.specs.BoxRules.{holds_box, is_box, node_facts}
use Rattle.file_grammar.specs.Facts.{AllHold}
use Rattle.file_grammar.specs.Messages.{Fields, has_number}
use Rattle.file_grammar.specs.Readings.{message_at, message_from}
use Rattle.file_grammar.specs.Sections.{BoxNode, leaf_with, leaves_in, node_in, nodes_in}
use Rattle.boxed_exact.specs.Nodes.{IsBelowPart, IsTreePart, nodes_below, nodes_within, shown}
use Rattle.boxed_exact.specs.declared.edges.Edges.{Edges}
use Rattle.boxed_check.specs.declared.nodes.Front.{Front}
use Rattle.boxed_exact.specs.declared.nodes.LeafSeen.{LeafSeen}
use Rattle.boxed_exact.specs.Boxes.{box_of}

-- edges, and what stands behind them
abbrev pub node_message : ℕ → Edges → (b c d : ℕ) → Fields → Fields
node_message a e b c d rest = has_number a 8 e.left (has_number b 16 e.top (has_number c 24 e.right (has_number d 32 e.bottom rest)))

-- a node of any part begins so, with a box
pub record IsFront (w : Window) (front : Front) : Type 0 where
  pub b : ℕ
  pub c : ℕ
  pub d : ℕ
  pub read : (part : Part) (rest : Fields) → IsTreePart part → message_from part (Some 32) (record w { place = front.next }) ≡ Ok rest → message_at part w ≡ Ok (node_message front.at front.edges b c d rest)
  pub box : is_box (box_of front.edges) ≡ true

-- the window holds a good node of this box, and its leaves were added
pub record IsGoodNode (part : Part) (w : Window) (edges : Edges) (before after : List LeafSeen) : Type 0 where
  pub fields : Fields
  pub read : message_at part w ≡ Ok fields
  pub node : BoxNode
  pub is : node_in fields ≡ Some node
  pub box : node.box ≡ box_of edges
  pub facts : AllHold (flat_map node_facts (nodes_in fields))
  pub leaves : after ≡ before ++ map shown (leaves_in (nodes_in fields))

-- the key before the next node
abbrev pub last_of : ℕ → ℕ
last_of zero = 32
last_of (suc count) = 54

-- good nodes of this part are left, so that there are so many in all and the leaves are these
pub record NodesLeft (sub : Part) (w : Window) (holder : Rect) (before after : List LeafSeen) (count total : ℕ) : Type 0 where
  pub fields : Fields
  pub read : (part : Part) → IsBelowPart part sub → message_from part (Some (last_of count)) w ≡ Ok fields
  pub facts : AllHold (flat_map node_facts (nodes_within fields))
  pub held : list_all (λ node. holds_box holder node.box) (nodes_below fields) ≡ true
  pub leaves : after ≡ before ++ map shown (leaves_in (nodes_within fields))
  pub none : (node : BoxNode) → leaf_with node fields ≡ None
  pub count_is : count + length (nodes_below fields) ≡ total

-- at most eight
pub record AreNodesSeen (sub : Part) (w : Window) (holder : Rect) (before after : List LeafSeen) : Type 0 where
  pub total : ℕ
  pub few : total ≤ 8
  pub nodes : NodesLeft sub w holder before after 0 total
