use Rattle.std.proofs.Common.{◌≡◌, ◌++◌, length}
use Rattle.std.specs.List.{AllByRecursion}
use Rattle.live_model.specs.Fits.{IsRoadNode}
use Rattle.road_section.specs.Roads.{node_list, nodes_from}
use Rattle.road_section.proofs.nodes.put_nodes.Given as goal

-- what is still to be appended, and what is known of it
abbrev pub invariant-loop-rest : goal.invariant-loop-rest
invariant-loop-rest l = record {
  done : l.out ++ nodes_from l.from l.rest ≡ l.initial.out ++ node_list l.nodes;
  before : IsRoadNode l.from;
  nodes : AllByRecursion IsRoadNode l.rest;
}

abbrev pub decreases-loop-rest : goal.decreases-loop-rest
decreases-loop-rest l = length l.rest
