use Rattle.std.proofs.Common.{◌≡◌, map}
use Rattle.std.specs.List.{range_with_len}
use Rattle.boxed_write.specs.Packed.{cut, node_above}
use Rattle.boxed_write.proofs.trees.level_above.Given as goal

-- a node above each cut so far
abbrev pub invariant-loop-index : goal.invariant-loop-index
invariant-loop-index l = l.above.items ≡ map node_above (map (cut 8 l.nodes) (range_with_len 0 l.index))
