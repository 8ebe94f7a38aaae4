-- How a writer packs boxed records of any class.
use Rattle.std.specs.Prelude.{ℕ, zero, suc, ◌+◌, ◌-◌, ◌*◌, ◌/◌, List, [], ◌∷◌, ◌++◌, map, flat_map, filter, length, take, drop, nat_lt, ◌==◌, if◌then◌else◌}
use Rattle.std.specs.List.{count_by, range_with_len}
use Rattle.std.specs.Ordering.{nat_cmp, ordering_then, is_le, is_lt}
use Rattle.std.specs.declared.cmp.Ordering.{Ordering}
use Rattle.live_model.specs.declared.points.Rect.{Rect}
use Rattle.live_model.specs.Geometry.{middle}
use Rattle.ordered_lists.specs.Ordered.{put_all}
use Rattle.obf_wire.specs.Fields.{number_field, short_field, section}
use Rattle.text_table.specs.Tables.{text_cmp, table_bytes}
use Rattle.box_tree.specs.Packing.{code}
use Rattle.box_tree.specs.Trees.{around}

-- Lists.

-- the item before the first that does not come before it
abbrev pub placed : {A : Type 0} → (A → A → Ordering) → A → List A → List A
placed cmp x [] = x ∷ []
placed cmp x (y ∷ ys) = if is_le (cmp x y) then x ∷ y ∷ ys else y ∷ placed cmp x ys

-- the items in an order, each as often as it stands there
abbrev pub sorted_by : {A : Type 0} → (A → A → Ordering) → List A → List A
sorted_by cmp [] = []
sorted_by cmp (x ∷ xs) = placed cmp x (sorted_by cmp xs)

-- the cut of this index: so many items in order, or what is left
abbrev pub cut : {A : Type 0} → ℕ → List A → ℕ → List A
cut size xs index = take size (drop (size * index) xs)

-- the items in cuts of a size, the last one shorter where they do not come out even
abbrev pub cuts : {A : Type 0} → ℕ → List A → List (List A)
cuts size xs = map (cut size xs) (range_with_len 0 ((length xs + (size - 1)) / size))

-- Trees.

-- a node: its box, and the bytes of its message
abbrev pub Node : Type 0
Node = Rect × List ℕ

-- left, top, right and bottom
abbrev pub edges : Rect → List ℕ
edges box = number_field 1 box.left ++ number_field 2 box.top ++ number_field 3 box.right ++ number_field 4 box.bottom

-- a leaf that names the offset of its block among the blocks
abbrev pub leaf : ℕ → Rect → Node
leaf offset box = (box, edges box ++ number_field 5 offset)

-- a node above others, with the smallest box that contains theirs
abbrev pub node_above : List Node → Node
node_above nodes = let box = around (map (λ node. node.0) nodes) in (box, edges box ++ flat_map (λ node. section 6 node.1) nodes)

-- the node that is left when each level takes eight of the level below; there are not more levels than nodes
abbrev pub root_within : ℕ → List Node → List ℕ
root_within more [] = []
root_within more (node ∷ []) = node.1
root_within zero nodes = []
root_within (suc more) nodes = root_within more (map node_above (cuts 8 nodes))

-- the tree over these leaves: empty, or one node
abbrev pub tree : List Node → List ℕ
tree leaves = root_within (length leaves) leaves

-- Sections.

-- What a class of records adds: their order, which begins with the ordinal, the smallest box around the points of one, the
-- texts that it names, and its fields after the ordinal in a block with these texts.
pub record Packing (A : Type 0) : Type 0 where
  pub cmp : A → A → Ordering
  pub ordinal : A → ℕ
  pub box : A → Rect
  pub texts : A → List (List ℕ)
  pub fields : List (List ℕ) → A → List ℕ

module _ {A : Type 0} (packing : Packing A) where
  -- by the code of the centre, then in the order of records
  abbrev pub packing_cmp : A → A → Ordering
  packing_cmp a b = ordering_then (nat_cmp (code (middle (packing.box a))) (code (middle (packing.box b)))) (packing.cmp a b)

  -- the records of each block: 64 in packing order, or what is left, then in the order of records
  abbrev pub blocks_of : List A → List (List A)
  blocks_of records = map (sorted_by packing.cmp) (cuts 64 (sorted_by packing_cmp records))

  -- just the texts that records name, each once, rising; the empty text is none
  abbrev pub texts_of : List A → List (List ℕ)
  texts_of records = put_all text_cmp (λ text. text) [] (filter (λ text. nat_lt 0 (length text)) (flat_map packing.texts records))

  -- the records after one with this ordinal, in a block with these texts
  abbrev pub records_behind : List (List ℕ) → ℕ → List A → List ℕ
  records_behind texts before [] = []
  records_behind texts before (r ∷ rs) =
      short_field 2 (number_field 1 (packing.ordinal r - before) ++ packing.fields texts r) ++ records_behind texts (packing.ordinal r) rs

  -- a whole block
  abbrev pub block : List A → List ℕ
  block records = section 2 (section 1 (table_bytes (texts_of records)) ++ records_behind (texts_of records) 0 records)

  -- a leaf for each block, which names it by the length of the blocks before it
  abbrev pub leaves_from : ℕ → List (List A) → List Node
  leaves_from offset [] = []
  leaves_from offset (b ∷ bs) = leaf offset (around (map packing.box b)) ∷ leaves_from (offset + length (block b)) bs

  -- the tree, and the blocks in its order
  abbrev pub packed_blocks : List (List A) → List ℕ
  packed_blocks blocks = section 1 (tree (leaves_from 0 blocks)) ++ flat_map block blocks

  -- the bytes of the section of these records
  unfoldable pub packed : List A → List ℕ
  packed records = packed_blocks (blocks_of records)

-- 0 for the empty text, else one more than its index: as many as are lower stand before it
abbrev pub text_number : List (List ℕ) → List ℕ → ℕ
text_number texts text = if length text == 0 then 0 else count_by (λ other. is_lt (text_cmp other text)) texts + 1
