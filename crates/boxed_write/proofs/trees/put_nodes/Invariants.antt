use Rattle.std.proofs.Common.{◌≡◌, ◌++◌, drop}
use Rattle.std.specs.Prelude.{flat_map}
use Rattle.obf_wire.specs.Fields.{section}
use Rattle.boxed_write.proofs.trees.put_nodes.Given as goal

-- what is still to be appended
abbrev pub invariant-loop-node : goal.invariant-loop-node
invariant-loop-node l = l.out ++ flat_map (λ node. section 6 node.1) (drop l.node-index l.nodes) ≡ l.initial.out ++ flat_map (λ node. section 6 node.1) l.nodes
