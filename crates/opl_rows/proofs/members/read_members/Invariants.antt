use Rattle.std.proofs.Common.{length}
use Rattle.opl_rows.proofs.Membership.{MembersGo}
use Rattle.opl_rows.proofs.members.read_members.Given as goal

abbrev pub invariant-loop-more : goal.invariant-loop-more
invariant-loop-more l = MembersGo l.members.items l.bytes l.rest

abbrev pub decreases-loop-more : goal.decreases-loop-more
decreases-loop-more l = length l.rest
