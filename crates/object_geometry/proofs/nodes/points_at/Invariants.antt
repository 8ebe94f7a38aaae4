use Rattle.std.proofs.Common.{◌≡◌, ◌++◌, length, map}
use Rattle.object_geometry.proofs.nodes.points_at.Given as goal

abbrev pub invariant-loop-rest : goal.invariant-loop-rest
invariant-loop-rest l = l.points ++ map (λ n. n.point) l.rest ≡ map (λ n. n.point) l.nodes

abbrev pub decreases-loop-rest : goal.decreases-loop-rest
decreases-loop-rest l = length l.rest
