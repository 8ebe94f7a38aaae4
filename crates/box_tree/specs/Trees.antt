-- Trees of boxes: a node's box is the smallest that holds those of its children.
use Rattle.std.specs.Prelude.{ℕ, ◌≤◌, zero, suc, ◌+◌, ◌*◌, ◌/◌, List, [], ◌∷◌, length, take, drop, map, fold, nat_le, if◌then◌else◌}
use Rattle.std.specs.List.{range_with_len}
use Rattle.live_model.specs.declared.points.Rect.{Rect}
use Rattle.live_model.specs.Points.{union}

-- no edge of the inner box lies outside the outer one
pub record Holds (outer inner : Rect) : Type 0 where
  pub left : outer.left ≤ inner.left
  pub top : outer.top ≤ inner.top
  pub right : inner.right ≤ outer.right
  pub bottom : inner.bottom ≤ outer.bottom

-- the smallest box that holds all of these; of none, the box of the north-west corner
abbrev pub around : List Rect → Rect
around [] = record { left = 0; top = 0; right = 0; bottom = 0 }
around (box ∷ boxes) = fold union box boxes

-- the children of the node at a place of the level above: eight in order, or what is left
abbrev pub children : List Rect → ℕ → List Rect
children boxes place = take 8 (drop (8 * place) boxes)

-- the box of the node at a place of the level above
abbrev pub node_above : List Rect → ℕ → Rect
node_above boxes place = around (children boxes place)

-- one node around each eight boxes
unfoldable pub level_above : List Rect → List Rect
level_above boxes = map (node_above boxes) (range_with_len 0 ((length boxes + 7) / 8))

-- these boxes and the levels above them up to a single node, but not more levels than this
abbrev pub levels_within : ℕ → List Rect → List (List Rect)
levels_within zero boxes = []
levels_within (suc more) boxes = boxes ∷ (if nat_le (length boxes) 1 then [] else levels_within more (level_above boxes))

-- the leaves, each level above them, and at last the single node of the root; there are not more levels than leaves
unfoldable pub levels_of : List Rect → List (List Rect)
levels_of leaves = levels_within (length leaves) leaves

-- the lowest of some levels
abbrev pub lowest : List (List Rect) → List Rect
lowest [] = []
lowest (level ∷ above) = level
