use Rattle.std.proofs.Common.{◌≡◌, length}
use Rattle.opl_rows.specs.Runs.{behind_code}
use Rattle.opl_rows.proofs.texts.skip_code.Given as goal

abbrev pub invariant-loop-c : goal.invariant-loop-c
invariant-loop-c l = behind_code l.rest ≡ behind_code l.bytes

abbrev pub decreases-loop-c : goal.decreases-loop-c
decreases-loop-c l = length l.rest
