use Rattle.std.proofs.Common.{◌+◌, ◌≤◌, length}
use Rattle.text_vectors.proofs.pieces.parts.Given as goal

-- the place stays within the bound of a row
abbrev pub invariant-loop-field : goal.invariant-loop-field
invariant-loop-field l = l.at + length l.rest ≤ 2000000

abbrev pub decreases-loop-field : goal.decreases-loop-field
decreases-loop-field l = length l.rest
