-- What a section of boxed records holds: a tree of boxes, and blocks of texts and records.
use Rattle.std.specs.Prelude.{ℕ, zero, suc, ◌+◌, ◌/◌, ◌%◌, ◌^◌, List, [], ◌∷◌, ◌++◌, filter_map, Option, Some, None, slice_get, unwrap_or, pos, ◌-ℤ◌}
use Rattle.std.specs.Option.{option_map}
use Rattle.live_model.specs.declared.ids.Kind.{Kind}
use Rattle.live_model.specs.declared.ids.Kind.TheVariants.{Node, Way, Relation}
use Rattle.live_model.specs.declared.points.Rect.{Rect}
use Rattle.live_model.specs.Ids.{Id}
use Rattle.file_grammar.specs.Messages.{Fields, ends, has_number, has_bytes, has_numbers, has_message}

-- a value, with the place of the field that holds it
pub record Placed (A : Type 0) : Type 0 where
  pub at : ℕ
  pub value : A

-- the same by its parts
abbrev pub placed : {A : Type 0} → ℕ → A → Placed A
placed at value = record { at = at; value = value }

-- the payloads of fields of bytes, in order
abbrev pub texts_in : Fields → List (Placed (List ℕ))
texts_in (has_bytes at key text rest) = placed at text ∷ texts_in rest
texts_in fields = []

-- the messages, in order
abbrev pub messages_in : Fields → List (Placed Fields)
messages_in (has_message at key inner rest) = placed at inner ∷ messages_in rest
messages_in fields = []

-- Blocks.

-- a record of a block: its own number is the ordinal less that of the record before it
pub record Entry : Type 0 where
  pub at : ℕ
  pub ordinal : ℕ
  pub fields : Fields

-- the number with which a record begins
abbrev pub step_of : Fields → ℕ
step_of (has_number at key step rest) = step
step_of fields = 0

-- each ordinal is the one before and the step to it
abbrev pub entries_from : ℕ → List (Placed Fields) → List Entry
entries_from before [] = []
entries_from before (m ∷ ms) =
    record { at = m.at; ordinal = before + step_of m.value; fields = m.value } ∷ entries_from (before + step_of m.value) ms

-- a block: its texts, and its records
pub record Block : Type 0 where
  pub at : ℕ
  pub texts : List (Placed (List ℕ))
  pub entries : List Entry

-- a block at a place
abbrev pub block_with : ℕ → Fields → Option Block
block_with at (has_message t key texts records) =
    Some (record { at = at; texts = texts_in texts; entries = entries_from 0 (messages_in records) })
block_with at fields = None

-- the blocks, in order
abbrev pub blocks_in : List (Placed Fields) → List Block
blocks_in messages = filter_map (λ m. block_with m.at m.value) messages

-- the text of a number: none for 0, else one more than its place
abbrev pub text_of : List (Placed (List ℕ)) → ℕ → List ℕ
text_of texts zero = []
text_of texts (suc place) = unwrap_or (option_map (λ t. t.value) (slice_get texts place)) []

-- the object of an ordinal
-- nodes, then ways, then relations
abbrev pub object_kind : ℕ → Kind
object_kind zero = Node
object_kind (suc zero) = Way
object_kind n = Relation

abbrev pub object_of : ℕ → Id
object_of ordinal = record { kind = object_kind (ordinal / 2 ^ 50); number = pos (ordinal % 2 ^ 50) -ℤ pos (2 ^ 48) }

-- Trees.

-- a node: its box, told at the place of its left edge, and what stands behind the edges
pub record BoxNode : Type 0 where
  pub at : ℕ
  pub box : Rect
  pub below : Fields

-- a node's edges come first
abbrev pub node_in : Fields → Option BoxNode
node_in (has_number at a left (has_number p b top (has_number q c right (has_number r d bottom below)))) =
    Some (record { at = at; box = record { left = left; top = top; right = right; bottom = bottom }; below = below })
node_in fields = None

-- the messages inside a message, each before those inside it
abbrev pub messages_within : Fields → List Fields
messages_within ends = []
messages_within (has_number at key value rest) = messages_within rest
messages_within (has_bytes at key text rest) = messages_within rest
messages_within (has_numbers at key values rest) = messages_within rest
messages_within (has_message at key inner rest) = inner ∷ messages_within inner ++ messages_within rest

-- the nodes of a tree, each before those below it
abbrev pub nodes_in : Fields → List BoxNode
nodes_in tree = filter_map node_in (tree ∷ messages_within tree)

-- the nodes directly below a node
abbrev pub children_of : BoxNode → List BoxNode
children_of node = filter_map (λ m. node_in m.value) (messages_in node.below)

-- a leaf: its box, and the place that it names
pub record Leaf : Type 0 where
  pub node : BoxNode
  pub place : Placed ℕ

-- a node that names a place is a leaf
abbrev pub leaf_with : BoxNode → Fields → Option Leaf
leaf_with node (has_number at key place rest) = Some (record { node = node; place = placed at place })
leaf_with node below = None

-- the leaves, in order
abbrev pub leaves_in : List BoxNode → List Leaf
leaves_in nodes = filter_map (λ node. leaf_with node node.below) nodes

-- Sections.

-- the nodes of the tree, each before those below it, and the blocks
pub record Section : Type 0 where
  pub nodes : List BoxNode
  pub blocks : List Block

-- a section: its tree, then its blocks
abbrev pub section_in : Fields → Section
section_in (has_message at key tree blocks) = record { nodes = nodes_in tree; blocks = blocks_in (messages_in blocks) }
section_in fields = record { nodes = []; blocks = [] }
