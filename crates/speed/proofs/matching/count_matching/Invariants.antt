use Rattle.std.proofs.Common.{◌-◌}
use Rattle.speed.proofs.matching.count_matching.Given as goal

abbrev pub decreases-loop-from : goal.decreases-loop-from
decreases-loop-from l = 100000 - l.from
