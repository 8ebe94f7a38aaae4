use Rattle.std.proofs.Common.{◌≡◌, ◌++◌, length, flat_map}
use Rattle.ref_index.proofs.Touching.{with_users}
use Rattle.ref_index.proofs.index.RefIndex.touched.Given as goal

-- the objects so far, and those of the lines that are left
abbrev pub invariant-loop-line : goal.invariant-loop-line
invariant-loop-line l = l.ids.items ++ flat_map (with_users l.self.map) l.rest ≡ flat_map (with_users l.self.map) l.lines

abbrev pub decreases-loop-line : goal.decreases-loop-line
decreases-loop-line l = length l.rest
