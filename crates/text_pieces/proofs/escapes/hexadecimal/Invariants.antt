use Rattle.std.proofs.Common.{◌≡◌, length, IsTrue}
use Rattle.std.specs.List.{list_all}
use Rattle.text_pieces.specs.Escapes.{is_hexadecimal, hexadecimal_after}
use Rattle.text_pieces.proofs.escapes.hexadecimal.Given as goal

abbrev pub invariant-loop-rest : goal.invariant-loop-rest
invariant-loop-rest l = (hexadecimal_after l.n l.rest ≡ hexadecimal_after 0 l.digits) × IsTrue (list_all is_hexadecimal l.rest)

abbrev pub decreases-loop-rest : goal.decreases-loop-rest
decreases-loop-rest l = length l.rest
