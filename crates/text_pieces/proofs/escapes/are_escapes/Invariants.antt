use Rattle.std.proofs.Common.{◌≡◌, length}
use Rattle.std.specs.Prelude.{is_some}
use Rattle.text_pieces.specs.Escapes.{unescaped}
use Rattle.text_pieces.proofs.escapes.are_escapes.Given as goal

abbrev pub invariant-loop-behind : goal.invariant-loop-behind
invariant-loop-behind l = is_some (unescaped l.rest) ≡ is_some (unescaped l.bytes)

abbrev pub decreases-loop-behind : goal.decreases-loop-behind
decreases-loop-behind l = length l.rest
