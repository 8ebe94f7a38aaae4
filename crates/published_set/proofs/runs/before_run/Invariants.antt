use Rattle.std.proofs.Common.{◌≡◌, ◌+◌, length}
use Rattle.published_set.specs.Runs.{before_run}
use Rattle.published_set.proofs.runs.before_run.Given as goal

abbrev pub invariant-loop-rest : goal.invariant-loop-rest
invariant-loop-rest l = (l.count + before_run l.names l.rest ≡ before_run l.names l.numbers) × (l.count + length l.rest ≡ length l.numbers)

abbrev pub decreases-loop-rest : goal.decreases-loop-rest
decreases-loop-rest l = length l.rest
