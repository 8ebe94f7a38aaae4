use Rattle.std.proofs.Common.{◌≡◌, ◌++◌, drop}
use Rattle.coord_delta.specs.Steps.{point_list, points_from}
use Rattle.coord_delta.proofs.writing.put_points.Given as goal

-- what is still to be appended
abbrev pub invariant-loop-point : goal.invariant-loop-point
invariant-loop-point l = l.out ++ points_from l.from (drop l.point-index l.points) ≡ l.initial.out ++ point_list l.points
