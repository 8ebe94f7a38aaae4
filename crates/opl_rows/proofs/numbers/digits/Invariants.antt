use Rattle.std.proofs.Common.{◌≡◌, ◌+◌, length}
use Rattle.text_pieces.specs.Numbers.{decimal_after}
use Rattle.opl_rows.specs.Fronts.{digits_of, behind_digits}
use Rattle.opl_rows.proofs.numbers.digits.Given as goal

abbrev pub invariant-loop-rest : goal.invariant-loop-rest
invariant-loop-rest l = record {
  value : decimal_after l.n (digits_of l.rest) ≡ decimal_after l.before (digits_of l.bytes);
  behind : behind_digits l.rest ≡ behind_digits l.bytes;
  long : length (digits_of l.bytes) + length l.rest ≡ length l.bytes + length (digits_of l.rest);
}

abbrev pub decreases-loop-rest : goal.decreases-loop-rest
decreases-loop-rest l = length l.rest
