-- The words of the search: parts of the leaves, and parts of the levels above them.
use Rattle.std.specs.Prelude.{ℕ, zero, suc, ◌+◌, ◌-◌, ◌*◌, ◌/◌, ◌^◌, List, [], take, drop, count_by, Option, slice_index_or}
use Rattle.live_model.specs.declared.points.Rect.{Rect}
use Rattle.live_model.specs.Points.{overlaps}
use Rattle.box_tree.specs.Search.{first_meeting}

-- the boxes at a height
abbrev pub nodes_at : List (List Rect) → ℕ → List Rect
nodes_at levels height = slice_index_or levels height []

-- the first leaf from one place up to another that meets the rectangle
unfoldable pub first_between : List Rect → Rect → ℕ → ℕ → Option ℕ
first_between leaves rect low high = first_meeting (take high leaves) rect low

-- how many boxes from one place up to another meet the rectangle
unfoldable pub meeting_between : List Rect → Rect → ℕ → ℕ → ℕ
meeting_between boxes rect low high = count_by (λ box. overlaps box rect) (take (high - low) (drop low boxes))

-- how many nodes meet the rectangle, in each level up to a height, from the node on that the leaf `from` is below, up to
-- those below a place of this height
unfoldable pub nodes_until : List (List Rect) → Rect → ℕ → ℕ → ℕ → ℕ
nodes_until levels rect zero from to = meeting_between (nodes_at levels zero) rect from to
nodes_until levels rect (suc height) from to =
    meeting_between (nodes_at levels (suc height)) rect (from / 8 ^ suc height) to + nodes_until levels rect height from (8 * to)

-- how many nodes meet the rectangle, in each level up to a height, from the node that the leaf `from` is below to the one that
-- the leaf `to` is below
unfoldable pub nodes_up_to : List (List Rect) → Rect → ℕ → ℕ → ℕ → ℕ
nodes_up_to levels rect zero from to = meeting_between (nodes_at levels zero) rect from (to + 1)
nodes_up_to levels rect (suc height) from to =
    meeting_between (nodes_at levels (suc height)) rect (from / 8 ^ suc height) (to / 8 ^ suc height + 1) + nodes_up_to levels rect height from to
