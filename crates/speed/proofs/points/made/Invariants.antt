use Rattle.std.specs.List.{AllByRecursion}
use Rattle.live_model.specs.Points.{IsInGrid}
use Rattle.speed.proofs.points.made.Given as goal

-- the points so far are in the grid
abbrev pub invariant-loop : goal.invariant-loop
invariant-loop l = AllByRecursion IsInGrid l.points.items
