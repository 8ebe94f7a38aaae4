use Rattle.std.proofs.Common.{◌≡◌, length}
use Rattle.opl_rows.specs.Fronts.{behind_plain}
use Rattle.opl_rows.proofs.texts.plain.Given as goal

abbrev pub invariant-loop-c : goal.invariant-loop-c
invariant-loop-c l = behind_plain l.rest ≡ behind_plain l.bytes

abbrev pub decreases-loop-c : goal.decreases-loop-c
decreases-loop-c l = length l.rest
