use Rattle.std.proofs.Common.{◌≤◌, ◌-◌, ℕ}
use Rattle.obf_wire.specs.Fields.{part_of}
use Rattle.obf_wire.specs.Windows.{range_of}
use Rattle.boxed_exact.specs.Boxes.{box_of}
use Rattle.boxed_check.specs.Points.{IsOnGridSpot}
use Rattle.road_section.specs.Stops.{AreNodesIn, NodesLeft, stop_read}
use Rattle.road_section.proofs.good_nodes.nodes_in.Given as goal

abbrev pub invariant-loop-node : goal.invariant-loop-node
invariant-loop-node l = record {
  suffices : (total : ℕ) → NodesLeft (part_of l.window.bytes.now l.node.spot.next l.window.to) (box_of l.holder) (stop_read l.node) l.count total → AreNodesIn (range_of l.window) (box_of l.holder) total;
  spot : IsOnGridSpot l.node.spot.x l.node.spot.y;
  inside : l.node.spot.next ≤ l.window.to;
  few : l.count ≤ l.node.spot.next;
}

abbrev pub decreases-loop-node : goal.decreases-loop-node
decreases-loop-node l = l.window.to - l.node.spot.next
