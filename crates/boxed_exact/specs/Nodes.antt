-- What was asked of the nodes of a tree.
use Rattle.std.specs.Prelude.{◌≡◌, ℕ, List, [], ◌∷◌, ◌++◌, length, map, filter_map, flat_map, true, Option, Some}
use Rattle.std.specs.List.{list_all}
use Rattle.std.specs.Option.{option_map}
use Rattle.obf_wire.specs.declared.file.FileBreak.{FileBreak}
use Rattle.file_grammar.specs.declared.parts.Content.TheVariants.{Message}
use Rattle.file_grammar.specs.declared.parts.Part.{Part}
use Rattle.file_grammar.specs.declared.parts.Part.TheVariants.{Tree, Node}
use Rattle.file_grammar.specs.BoxRules.{holds_box, node_facts}
use Rattle.file_grammar.specs.Facts.{earlier, first_failing}
use Rattle.file_grammar.specs.Messages.{Fields, ends, has_number, has_message}
use Rattle.file_grammar.specs.Sections.{BoxNode, Leaf, leaves_in, messages_in, messages_within, node_in, nodes_in}
use Rattle.obf_wire.specs.Fields.{is_among}
use Rattle.file_grammar.specs.Tables.{content_of, may_end, next_keys}
use Rattle.boxed_exact.specs.declared.edges.Edges.{Edges}
use Rattle.boxed_exact.specs.declared.nodes.BelowSeen.{BelowSeen}
use Rattle.boxed_exact.specs.declared.nodes.LeafSeen.{LeafSeen}
use Rattle.boxed_exact.specs.Boxes.{box_of, edges_of}

abbrev pub IsTreePart : Part → Type 0
IsTreePart Tree = Unit {0}
IsTreePart (Node levels) = Unit {0}
IsTreePart part = ⊥

-- how many levels may come below
abbrev pub levels_of : Part → ℕ
levels_of Tree = 23
levels_of (Node levels) = levels
levels_of part = 0

-- where a node may have others below it, they are of this part
abbrev pub IsPartBelow : Part → Option Part → Type 0
IsPartBelow part below = (sub : Part) → content_of part 54 ≡ Some (Message sub) → below ≡ Some sub

-- below nodes of this part, nodes of that part may stand
pub record IsBelowPart (part sub : Part) : Type 0 where
  pub first : is_among (next_keys part (Some 32)) 54 ≡ true
  pub again : is_among (next_keys part (Some 54)) 54 ≡ true
  pub content : content_of part 54 ≡ Some (Message sub)
  pub end : may_end part (Some 54) ≡ true

-- messages behind the key of nodes
abbrev pub AreNodes : Fields → Type 0
AreNodes ends = Unit {0}
AreNodes (has_message at key inner rest) = (key ≡ 54) × AreNodes rest
AreNodes fields = ⊥

-- below a node stands the place that it names, or other nodes
abbrev pub IsBelow : Fields → Type 0
IsBelow (has_number at key value rest) = (key ≡ 40) × (rest ≡ ends)
IsBelow fields = AreNodes fields

-- a leaf as the code holds it
abbrev pub shown : Leaf → LeafSeen
shown leaf = record { at = leaf.node.at; edges = edges_of leaf.node.box; place = record { at = leaf.place.at; value = leaf.place.value } }

-- a leaf of this box, where a place stands below it
abbrev pub leaf_seen : ℕ → Edges → Fields → List LeafSeen
leaf_seen at edges (has_number p key place rest) = record { at = at; edges = edges; place = record { at = p; value = place } } ∷ []
leaf_seen at edges fields = []

-- the nodes inside these messages
abbrev pub nodes_within : Fields → List BoxNode
nodes_within fields = filter_map node_in (messages_within fields)

abbrev pub nodes_below : Fields → List BoxNode
nodes_below fields = filter_map (λ m. node_in m.value) (messages_in fields)

-- what stands below a node was asked, its leaves were added, and its boxes were seen so
pub record IsBelowChecked (at : ℕ) (edges : Edges) (fields : Fields) (old new : Option FileBreak) (before after : List LeafSeen) (seen : BelowSeen) : Type 0 where
  pub asked : new ≡ earlier old (first_failing (flat_map node_facts (nodes_within fields)))
  pub listed : after ≡ before ++ (leaf_seen at edges fields ++ map shown (leaves_in (nodes_within fields)))
  pub count : seen.count ≡ length (nodes_below fields)
  pub held : seen.held ≡ list_all (λ node. holds_box (box_of edges) node.box) (nodes_below fields)

-- the nodes of a message were asked, and their leaves added; this is the box of the first
pub record AreNodesChecked (fields : Fields) (old new : Option FileBreak) (before after : List LeafSeen) (told : Option Edges) : Type 0 where
  pub asked : new ≡ earlier old (first_failing (flat_map node_facts (nodes_in fields)))
  pub listed : after ≡ before ++ map shown (leaves_in (nodes_in fields))
  pub found : told ≡ option_map (λ node. edges_of node.box) (node_in fields)
