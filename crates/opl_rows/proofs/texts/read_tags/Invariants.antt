use Rattle.std.proofs.Common.{length}
use Rattle.opl_rows.proofs.Items.{TagsGoes}
use Rattle.opl_rows.proofs.texts.read_tags.Given as goal

abbrev pub invariant-loop-more : goal.invariant-loop-more
invariant-loop-more l = TagsGoes l.tags l.bytes l.rest

abbrev pub decreases-loop-more : goal.decreases-loop-more
decreases-loop-more l = length l.rest
