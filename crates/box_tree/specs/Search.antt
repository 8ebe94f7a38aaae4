-- Which leaf is found, and what finding it may cost.
use Rattle.std.specs.Prelude.{ℕ, ◌+◌, ◌-◌, ◌/◌, ◌^◌, List, [], length, take, drop, map, sum, find, count_by, Option, slice_index_or}
use Rattle.std.specs.Option.{option_map}
use Rattle.std.specs.List.{range_with_len, enumerate_from}
use Rattle.live_model.specs.declared.points.Rect.{Rect}
use Rattle.live_model.specs.Points.{overlaps}

-- the place of the first leaf at or after `from` that meets the rectangle
abbrev pub first_meeting : List Rect → Rect → ℕ → Option ℕ
first_meeting leaves rect from = option_map (λ leaf. leaf.0) (find (λ leaf. overlaps leaf.1 rect) (drop from (enumerate_from 0 leaves)))

-- how many nodes meet the rectangle, in each level from the node on that the leaf `from` is below: at a height a node
-- holds 8 ^ height leaves
unfoldable pub nodes_meeting : List (List Rect) → Rect → ℕ → ℕ
nodes_meeting levels rect from =
    sum (map (λ height. count_by (λ box. overlaps box rect) (drop (from / 8 ^ height) (slice_index_or levels height []))) (range_with_len 0 (length levels)))

-- how many nodes meet the rectangle, in each level from the node that the leaf `from` is below to the one that the leaf `to`
-- is below
unfoldable pub nodes_between : List (List Rect) → Rect → ℕ → ℕ → ℕ
nodes_between levels rect from to =
    sum (map (λ height. count_by (λ box. overlaps box rect) (take (to / 8 ^ height + 1 - from / 8 ^ height) (drop (from / 8 ^ height) (slice_index_or levels height [])))) (range_with_len 0 (length levels)))
