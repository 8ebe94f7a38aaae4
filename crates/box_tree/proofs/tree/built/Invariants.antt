use Rattle.std.proofs.Common.{◌≡◌, ◌<◌, ◌++◌, length}
use Rattle.box_tree.specs.Trees.{levels_of}
use Rattle.box_tree.proofs.tree.built.Given as goal

-- the levels so far, and those from the top one on
abbrev pub invariant-top : goal.invariant-top
invariant-top l = (l.all.items ++ levels_of l.top ≡ levels_of l.leaves) × (0 < length l.top)

abbrev pub decreases-top : goal.decreases-top
decreases-top l = length l.top
