use Rattle.std.proofs.Common.{◌-◌}
use Rattle.coord_delta.proofs.Walks.{PairsUpTo}
use Rattle.coord_delta.proofs.reading.read_rest.Given as goal

abbrev pub invariant-loop-at : goal.invariant-loop-at
invariant-loop-at l = PairsUpTo l.bytes l.from l.at l.to

abbrev pub decreases-loop-at : goal.decreases-loop-at
decreases-loop-at l = l.to - l.at
