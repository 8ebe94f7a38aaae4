use Rattle.std.proofs.Common.{◌≡◌, length}
use Rattle.object_geometry.specs.Matching.{of_class}
use Rattle.object_geometry.proofs.matches.Matches.next_of.Given as goal

abbrev pub invariant-loop-index : goal.invariant-loop-index
invariant-loop-index l = of_class l.fn.wanted l.self ≡ of_class l.fn.wanted l.initial.self

abbrev pub decreases-loop-index : goal.decreases-loop-index
decreases-loop-index l = length l.self
