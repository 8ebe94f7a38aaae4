use Rattle.std.proofs.Common.{◌≡◌, ◌++◌, length, map}
use Rattle.live_model.specs.Closures.{looked_up}
use Rattle.live_model.specs.Geometry.{located_nodes}
use Rattle.object_geometry.proofs.nodes.put_members.Given as goal

-- what is still to come, behind what was put
abbrev pub invariant-loop-rest : goal.invariant-loop-rest
invariant-loop-rest l =
    l.nodes ++ located_nodes (map (looked_up l.look) (map (λ m. m.target) l.rest)) ≡ l.initial.nodes ++ located_nodes (map (looked_up l.look) (map (λ m. m.target) l.members))

abbrev pub decreases-loop-rest : goal.decreases-loop-rest
decreases-loop-rest l = length l.rest
