use Rattle.std.proofs.Common.{◌≡◌, ◌++◌, length, flat_map}
use Rattle.ref_index.specs.Pairs.{pairs_named}
use Rattle.ref_index.proofs.named.pairs_of_lines.Given as goal

-- the pairs so far, and those of the lines that are left
abbrev pub invariant-loop-line : goal.invariant-loop-line
invariant-loop-line l = l.pairs.items ++ flat_map (pairs_named l.look) l.rest ≡ flat_map (pairs_named l.look) l.lines

abbrev pub decreases-loop-line : goal.decreases-loop-line
decreases-loop-line l = length l.rest
