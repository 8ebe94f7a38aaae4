use Rattle.std.proofs.Common.{◌≡◌, map}
use Rattle.std.specs.List.{range_with_len}
use Rattle.box_tree.specs.Trees.{node_above}
use Rattle.box_tree.proofs.tree.level_above.Given as goal

abbrev pub invariant-loop-place : goal.invariant-loop-place
invariant-loop-place l = l.above.items ≡ map (node_above l.boxes) (range_with_len 0 l.place)
