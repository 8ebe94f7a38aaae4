use Rattle.std.proofs.Common.{◌≡◌, ℕ, ◌<◌, get_or, false}
use Rattle.text_pieces.specs.Escapes.{needs_escape}
use Rattle.text_pieces.proofs.writing.escape_in.Given as goal

abbrev pub invariant-loop-i : goal.invariant-loop-i
invariant-loop-i l = (k : ℕ) → k < l.i → needs_escape (get_or l.bytes k 0) ≡ false
