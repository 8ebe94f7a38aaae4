use denote.Shadow.{shadow}
use denote.Text.{Utf8}
use Rattle.std.proofs.Common.{length}
use Rattle.live_model.specs.FieldValues.{member_of}
use Rattle.opl_reader.proofs.ItemSteps.{split, IsAt}
use Rattle.opl_reader.proofs.members.named.Given as goal

abbrev pub invariant-loop-item : goal.invariant-loop-item
invariant-loop-item l = record {
  utf8 : shadow (Utf8 l.rest);
  at : IsAt member_of l.value l.keep l.members.items (split l.rest);
}

abbrev pub decreases-loop-item : goal.decreases-loop-item
decreases-loop-item l = length l.rest
