use Rattle.std.proofs.Common.{length}
use Rattle.opl_rows.proofs.Referring.{RefsGo}
use Rattle.opl_rows.proofs.refs.read_refs.Given as goal

abbrev pub invariant-loop-more : goal.invariant-loop-more
invariant-loop-more l = RefsGo l.refs.items l.bytes l.rest

abbrev pub decreases-loop-more : goal.decreases-loop-more
decreases-loop-more l = length l.rest
