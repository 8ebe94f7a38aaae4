use Rattle.std.proofs.Common.{◌≡◌, length}
use Rattle.live_model.specs.FieldValues.{has_form}
use Rattle.opl_rows.specs.Fronts.{front, back}
use Rattle.opl_rows.proofs.values.formed.Given as goal

abbrev pub invariant-loop-wanted : goal.invariant-loop-wanted
invariant-loop-wanted l = record {
  formed : has_form l.wanted (front l.rest) ≡ has_form l.form (front l.bytes);
  behind : back l.rest ≡ back l.bytes;
}

abbrev pub decreases-loop-wanted : goal.decreases-loop-wanted
decreases-loop-wanted l = length l.wanted
