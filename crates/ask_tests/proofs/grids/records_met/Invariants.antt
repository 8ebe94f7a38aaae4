use Rattle.std.specs.Prelude.{length}
use Rattle.boxed_read.specs.Steps.{still_left}
use Rattle.ask_tests.proofs.grids.records_met.Given as goal

abbrev pub invariant-loop-met : goal.invariant-loop-met
invariant-loop-met g l = Unit {0}

-- the records that are left
abbrev pub decreases-loop-met : goal.decreases-loop-met
decreases-loop-met g l = length (still_left l.met)
