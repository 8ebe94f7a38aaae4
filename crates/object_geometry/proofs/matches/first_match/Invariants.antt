use Rattle.std.proofs.Common.{◌≡◌, length}
use Rattle.object_geometry.specs.Matching.{lesser, first_from}
use Rattle.object_geometry.proofs.matches.first_match.Given as goal

-- what the shapes so far gave, and those that are still to come
abbrev pub invariant-loop-rest : goal.invariant-loop-rest
invariant-loop-rest l = lesser l.first (first_from l.rules l.rest l.tags l.from) ≡ first_from l.rules l.shapes l.tags l.from

abbrev pub decreases-loop-rest : goal.decreases-loop-rest
decreases-loop-rest l = length l.rest
