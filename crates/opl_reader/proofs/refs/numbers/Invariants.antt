use Rattle.std.proofs.Common.{◌≡◌, length}
use Rattle.live_model.specs.FieldValues.{ref_of, items_of, breaks_located}
use Rattle.opl_reader.proofs.ItemSteps.{split, IsAt}
use Rattle.opl_reader.proofs.refs.numbers.Given as goal

abbrev pub invariant-loop-item : goal.invariant-loop-item
invariant-loop-item l = record {
  at : IsAt ref_of l.value l.keep l.numbers.items (split l.rest);
  located : breaks_located (split l.rest) ≡ breaks_located (items_of l.value);
}

abbrev pub decreases-loop-item : goal.decreases-loop-item
decreases-loop-item l = length l.rest
