use Rattle.std.proofs.Common.{◌+◌, ◌≤◌, length}
use Rattle.text_vectors.proofs.pieces.lines.Given as goal

-- the place stays within the bound of a row
abbrev pub invariant-loop-line : goal.invariant-loop-line
invariant-loop-line l = l.at + length l.rest ≤ 2000000

abbrev pub decreases-loop-line : goal.decreases-loop-line
decreases-loop-line l = length l.rest
