use Rattle.std.proofs.Common.{◌≡◌, max, length}
use Rattle.overlay_set.specs.Sets.{greatest}
use Rattle.published_set.proofs.set.greatest.Given as goal

abbrev pub invariant-loop-rest : goal.invariant-loop-rest
invariant-loop-rest l = max l.found (greatest l.rest) ≡ greatest l.numbers

abbrev pub decreases-loop-rest : goal.decreases-loop-rest
decreases-loop-rest l = length l.rest
