use Rattle.std.proofs.Common.{◌≡◌, ◌++◌, length, flat_map}
use Rattle.ref_index.specs.Pairs.{places_named}
use Rattle.ref_index.proofs.named.targets_of_lines.Given as goal

-- the places so far, and those of the lines that are left
abbrev pub invariant-loop-line : goal.invariant-loop-line
invariant-loop-line l = l.places.items ++ flat_map (places_named l.before l.after) l.rest ≡ flat_map (places_named l.before l.after) l.lines

abbrev pub decreases-loop-line : goal.decreases-loop-line
decreases-loop-line l = length l.rest
