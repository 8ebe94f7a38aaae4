use Rattle.std.proofs.Common.{◌≡◌, length}
use Rattle.published_set.specs.Runs.{first_missing}
use Rattle.published_set.proofs.runs.first_missing.Given as goal

abbrev pub invariant-loop-rest : goal.invariant-loop-rest
invariant-loop-rest l = first_missing l.rest l.numbers ≡ first_missing l.names l.numbers

abbrev pub decreases-loop-rest : goal.decreases-loop-rest
decreases-loop-rest l = length l.rest
