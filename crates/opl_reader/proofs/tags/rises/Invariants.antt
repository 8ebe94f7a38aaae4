use Rattle.std.proofs.Common.{length}
use Rattle.live_model.specs.Objects.{AreTags}
use Rattle.opl_reader.proofs.tags.rises.Given as goal

-- all of them rise where the rest does
abbrev pub invariant-loop-first : goal.invariant-loop-first
invariant-loop-first l = AreTags l.rest → AreTags l.tags

abbrev pub decreases-loop-first : goal.decreases-loop-first
decreases-loop-first l = length l.rest
