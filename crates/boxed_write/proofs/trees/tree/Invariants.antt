use Rattle.std.proofs.Common.{◌≡◌, length}
use Rattle.boxed_write.specs.Packed.{tree}
use Rattle.boxed_write.proofs.trees.tree.Given as goal

-- the level so far is below the same tree
abbrev pub invariant-top : goal.invariant-top
invariant-top l = tree l.top.items ≡ tree l.fn.leaves.items

abbrev pub decreases-top : goal.decreases-top
decreases-top l = length l.top.items
