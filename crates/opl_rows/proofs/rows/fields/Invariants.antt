use Rattle.std.proofs.Common.{length}
use Rattle.opl_rows.specs.Rows.{found_of}
use Rattle.opl_rows.proofs.Fields.{GoesOn}
use Rattle.opl_rows.proofs.rows.fields.Given as goal

abbrev pub invariant-loop-blank : goal.invariant-loop-blank
invariant-loop-blank l = GoesOn l.kind (found_of l.row) l.rest l.bytes

abbrev pub decreases-loop-blank : goal.decreases-loop-blank
decreases-loop-blank l = length l.rest
