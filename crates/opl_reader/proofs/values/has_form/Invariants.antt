use Rattle.std.proofs.Common.{◌≡◌, length}
use Rattle.live_model.specs.FieldValues.{has_form}
use Rattle.opl_reader.proofs.values.has_form.Given as goal

abbrev pub invariant-loop-wanted : goal.invariant-loop-wanted
invariant-loop-wanted l = has_form l.wanted l.rest ≡ has_form l.form l.value

abbrev pub decreases-loop-wanted : goal.decreases-loop-wanted
decreases-loop-wanted l = length l.wanted
