use Rattle.std.proofs.Common.{◌≤◌, length}
use Rattle.live_model.specs.Objects.{AreTags}
use Rattle.opl_rows.specs.Held.{tags_in, total}
use Rattle.opl_rows.proofs.held.rises.Given as goal

abbrev pub invariant-loop-first : goal.invariant-loop-first
invariant-loop-first l = record {
  rising : AreTags (tags_in l.rest l.bytes) → AreTags (tags_in l.spans l.texts);
  within : total l.rest ≤ length l.bytes;
}

abbrev pub decreases-loop-first : goal.decreases-loop-first
decreases-loop-first l = length l.rest
