use Rattle.std.proofs.Common.{◌≡◌, ◌≤◌, ◌+◌, ◌-◌, ◌*◌, Ok}
use Rattle.obf_wire.specs.Fields.{IsWindow}
use Rattle.file_grammar.specs.Messages.{Fields}
use Rattle.file_grammar.specs.Walks.{left_in}
use Rattle.boxed_exact.specs.Nodes.{IsBelow, levels_of}
use Rattle.boxed_exact.proofs.NodeWalk.{BelowLeft}
use Rattle.boxed_exact.proofs.nodes.+nodes.Given as goal

abbrev pub decreases-check_nodes : goal.decreases-check_nodes
decreases-check_nodes l = 2 * levels_of l.part + 2

abbrev pub decreases-check_below : goal.decreases-check_below
decreases-check_below l = 2 * levels_of l.part + 1

abbrev pub invariant-check_below-loop-field : goal.invariant-check_below-loop-field
invariant-check_below-loop-field l = record {
  nodes : (fields : Fields) → left_in l.fn.walk ≡ Ok fields → IsBelow fields → BelowLeft l.at l.edges fields l.fn.first l.first l.fn.leaves.items l.leaves.items l.seen l.walk;
  part : l.walk.part ≡ l.part;
  window : IsWindow l.walk.window;
  same : l.walk.window.bytes ≡ l.bytes;
  few : l.seen.count ≤ l.walk.window.place;
}

abbrev pub decreases-check_below-loop-field : goal.decreases-check_below-loop-field
decreases-check_below-loop-field l = l.walk.window.end - l.walk.window.place
