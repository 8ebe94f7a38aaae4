use Rattle.std.proofs.Common.{◌≡◌, ◌≤◌, ◌+◌, length}
use Rattle.text_pieces.specs.Lines.{fields_from}
use Rattle.text_pieces.proofs.lines.next_field.Given as goal

abbrev pub invariant-loop-rest : goal.invariant-loop-rest
invariant-loop-rest l = (fields_from l.at l.rest ≡ fields_from l.fn.at l.bytes) × (l.at + length l.rest ≡ l.fn.at + length l.bytes) × (length l.rest ≤ length l.bytes)

abbrev pub decreases-loop-rest : goal.decreases-loop-rest
decreases-loop-rest l = length l.rest
