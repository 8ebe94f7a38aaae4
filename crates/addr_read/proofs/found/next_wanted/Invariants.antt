use Rattle.std.proofs.Common.{◌≡◌, length}
use Rattle.std.specs.Prelude.{filter}
use Rattle.addr_read.specs.Finding.{is_wanted}
use Rattle.addr_read.proofs.found.next_wanted.Given as goal

-- what is wanted of the addresses that are left is what was
abbrev pub invariant-loop-view : goal.invariant-loop-view
invariant-loop-view l = filter (is_wanted l.houses l.key) l.here ≡ filter (is_wanted l.houses l.key) l.initial.here

abbrev pub decreases-loop-view : goal.decreases-loop-view
decreases-loop-view l = length l.here
