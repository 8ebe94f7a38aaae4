-- What has to hold of a section of boxed records, whatever the records are.
-- A rule that needs a part which fails a rule of its own holds of that part: an ordinal that is no object's, a place off the
-- grid, a box off the grid or with its edges in the wrong order, a text that is not UTF-8, a leaf without a block. Any other
-- part is taken as it stands.
use Rattle.std.specs.Prelude.{ℕ, ◌+◌, ◌/◌, ◌%◌, ◌^◌, List, [], ◌∷◌, ◌++◌, map, flat_map, length, Bool, true, false, ◌&&◌, ◌||◌, not, nat_lt, nat_le, ◌==◌, Option, Some, None, pos, int_le}
use Rattle.std.specs.List.{list_all, list_any}
use Rattle.std.specs.Str.{is_utf8}
use Rattle.std.specs.Ordering.{is_lt}
use Rattle.live_model.specs.declared.points.Rect.{Rect}
use Rattle.live_model.specs.declared.rules.Rule.{Rule}
use Rattle.coord_delta.specs.Steps.{Place}
use Rattle.text_table.specs.Tables.{text_cmp}
use Rattle.obf_wire.specs.declared.file.FileKind.TheVariants.{BadText, BadBox, BadPlace, BadCount}
use Rattle.file_grammar.specs.Facts.{Fact, fact}
use Rattle.file_grammar.specs.Sections.{Placed, Entry, Block, BoxNode, children_of, Leaf, leaves_in, Section}

-- Neighbours.

-- each item with the one before it
abbrev pub with_before : {A : Type 0} → Option A → List A → List (Option A × A)
with_before before [] = []
with_before before (x ∷ xs) = (before, x) ∷ with_before (Some x) xs

-- the test holds of the item and the one before it
abbrev pub follows : {A : Type 0} → (A → A → Bool) → Option A × A → Bool
follows test (None, x) = true
follows test (Some before, x) = test before x

-- Ordinals.

-- of a node, a way or a relation with a number of magnitude at most 2^48
abbrev pub is_ordinal : ℕ → Bool
is_ordinal n = nat_le (n / 2 ^ 50) 2 && nat_le (n % 2 ^ 50) (2 ^ 49)

-- of a node, and of a way
abbrev pub is_node : ℕ → Bool
is_node n = n / 2 ^ 50 == 0

abbrev pub is_way : ℕ → Bool
is_way n = n / 2 ^ 50 == 1

-- what is there beside the section: the rules of the file; and the marks, where records are asked for one: not in a base, nor
-- where the list of marks fails a rule of its own
pub record Beside : Type 0 where
  pub rules : List Rule
  pub marks : Option (List ℕ)

-- the ordinal is a mark; it holds of a number that is no ordinal
abbrev pub is_marked : Option (List ℕ) → ℕ → Bool
is_marked None n = true
is_marked (Some marks) n = list_any (λ mark. mark == n) marks || not (is_ordinal n)

-- Places.

-- x at most 360 degrees and y at most 180, in units of 10^-7, from the north-west corner
abbrev pub is_on_grid : Place → Bool
is_on_grid (x, y) = (int_le (pos 0) x && int_le x (pos 3600000000)) && (int_le (pos 0) y && int_le y (pos 1800000000))

-- the place is in the box; it holds of a place off the grid
abbrev pub holds_place : Rect → Place → Bool
holds_place box (x, y) =
    ((int_le (pos box.left) x && int_le x (pos box.right)) && (int_le (pos box.top) y && int_le y (pos box.bottom))) || not (is_on_grid (x, y))

-- Boxes.

-- the edges are in order and in the grid
abbrev pub is_box : Rect → Bool
is_box b = (nat_le b.left b.right && nat_le b.top b.bottom) && (nat_le b.right 3600000000 && nat_le b.bottom 1800000000)

-- the box contains the other; it holds of one that is no box
abbrev pub holds_box : Rect → Rect → Bool
holds_box a b = ((nat_le a.left b.left && nat_le b.right a.right) && (nat_le a.top b.top && nat_le b.bottom a.bottom)) || not (is_box b)

-- Nodes: a box that contains those of its children, of which there are at most eight.
abbrev pub node_facts : BoxNode → List Fact
node_facts node =
    fact node.at BadBox (is_box node.box && list_all (λ child. holds_box node.box child.box) (children_of node))
    ∷ fact node.at BadCount (nat_le (length (children_of node)) 8) ∷ []

-- Texts: UTF-8, not empty, strictly rising; the order is not asked where one of the two is not UTF-8.
abbrev pub texts_rise : Placed (List ℕ) → Placed (List ℕ) → Bool
texts_rise a b = is_lt (text_cmp a.value b.value) || not (is_utf8 a.value && is_utf8 b.value)

-- what is asked of a text behind another
abbrev pub text_fact : Option (Placed (List ℕ)) × Placed (List ℕ) → Fact
text_fact pair = fact pair.1.at BadText ((is_utf8 pair.1.value && nat_lt 0 (length pair.1.value)) && follows texts_rise pair)

-- What a class of records adds: what has to hold of a record behind another in a block, and where its points lie.
pub record Boxing : Type 0 where
  pub facts : Beside → Block → Option Entry × Entry → List Fact
  pub points : Entry → List Place

module _ (boxing : Boxing) (beside : Beside) where
  -- Blocks: 1 to 64 records.
  abbrev pub block_facts : Block → List Fact
  block_facts block =
      fact block.at BadCount (nat_le 1 (length block.entries) && nat_le (length block.entries) 64)
      ∷ map text_fact (with_before None block.texts) ++ flat_map (boxing.facts beside block) (with_before None block.entries)

  -- the places of all records of a block
  abbrev pub points_in : Block → List Place
  points_in block = flat_map boxing.points block.entries

  -- Leaves: the n-th names the n-th block by its place behind the first, and contains its points.
  abbrev pub leaf_facts : ℕ → Leaf → Block → List Fact
  leaf_facts first leaf block =
      fact leaf.place.at BadPlace (first + leaf.place.value == block.at) ∷ fact leaf.node.at BadBox (list_all (holds_place leaf.node.box) (points_in block)) ∷ []

  -- a leaf without a block, and a block without a leaf
  abbrev pub paired_facts : ℕ → List Leaf → List Block → List Fact
  paired_facts first [] blocks = map (λ block. fact block.at BadPlace false) blocks
  paired_facts first (leaf ∷ leaves) [] = map (λ l. fact l.place.at BadPlace false) (leaf ∷ leaves)
  paired_facts first (leaf ∷ leaves) (block ∷ blocks) = leaf_facts first leaf block ++ paired_facts first leaves blocks

  -- where the first block stands
  abbrev pub first_place : List Block → ℕ
  first_place [] = 0
  first_place (block ∷ blocks) = block.at

  -- all that has to hold of a section of good form
  unfoldable pub section_facts : Section → List Fact
  section_facts section =
      flat_map node_facts section.nodes ++ paired_facts (first_place section.blocks) (leaves_in section.nodes) section.blocks
      ++ flat_map block_facts section.blocks
