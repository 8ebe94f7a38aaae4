use Rattle.std.proofs.Common.{length}
use Rattle.opl_rows.proofs.Runs.{TextGoes}
use Rattle.opl_rows.proofs.texts.text.Given as goal

abbrev pub invariant-loop-after : goal.invariant-loop-after
invariant-loop-after l = TextGoes l.fn.tags l.tags l.bytes l.rest

abbrev pub decreases-loop-after : goal.decreases-loop-after
decreases-loop-after l = length l.rest
