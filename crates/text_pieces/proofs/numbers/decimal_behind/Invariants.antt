use Rattle.std.proofs.Common.{◌≡◌, length, IsTrue}
use Rattle.std.specs.List.{list_all}
use Rattle.text_pieces.specs.Numbers.{is_digit, decimal_after}
use Rattle.text_pieces.proofs.numbers.decimal_behind.Given as goal

abbrev pub invariant-loop-rest : goal.invariant-loop-rest
invariant-loop-rest l = (decimal_after l.n l.rest ≡ decimal_after l.fn.n l.digits) × IsTrue (list_all is_digit l.rest)

abbrev pub decreases-loop-rest : goal.decreases-loop-rest
decreases-loop-rest l = length l.rest
