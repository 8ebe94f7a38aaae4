use denote.Shadow.{shadow}
use denote.Text.{Utf8}
use Rattle.std.proofs.Common.{length}
use Rattle.live_model.specs.FieldValues.{tag_of}
use Rattle.opl_reader.proofs.ItemSteps.{split, IsAt}
use Rattle.opl_reader.proofs.tags.pairs.Given as goal

abbrev pub invariant-loop-item : goal.invariant-loop-item
invariant-loop-item l = record {
  utf8 : shadow (Utf8 l.rest);
  at : IsAt tag_of l.value l.keep l.pairs.items (split l.rest);
}

abbrev pub decreases-loop-item : goal.decreases-loop-item
decreases-loop-item l = length l.rest
