use Rattle.std.proofs.Common.{◌≤◌, ◌+◌, ◌-◌, ◌*◌, ℕ, List}
use Rattle.obf_wire.specs.Fields.{part_of}
use Rattle.boxed_exact.specs.Nodes.{levels_of}
use Rattle.boxed_exact.specs.declared.nodes.LeafSeen.{LeafSeen}
use Rattle.boxed_check.specs.Nodes.{NodesLeft}
use Rattle.boxed_exact.specs.Boxes.{box_of}
use Rattle.boxed_check.proofs.nodes.+nodes.Given as goal

abbrev pub decreases-see_node : goal.decreases-see_node
decreases-see_node l = 2 * levels_of l.part + 1

abbrev pub decreases-see_below : goal.decreases-see_below
decreases-see_below l = 2 * levels_of l.below + 2

abbrev pub invariant-see_below-loop-at : goal.invariant-see_below-loop-at
invariant-see_below-loop-at l = record {
  suffices : (after : List LeafSeen) (total : ℕ) → NodesLeft l.below (part_of l.window.bytes.now l.at l.window.to) (box_of l.holder) l.leaves.items after l.count total
      → NodesLeft l.below (part_of l.window.bytes.now l.from l.window.to) (box_of l.holder) l.fn.leaves.items after 0 total;
  inside : l.at ≤ l.window.to;
  few : l.count ≤ 8;
}

abbrev pub decreases-see_below-loop-at : goal.decreases-see_below-loop-at
decreases-see_below-loop-at l = l.window.to - l.at
