use Rattle.std.specs.Prelude.{◌≡◌, ◌+◌, length, filter}
use Rattle.boxed_read.specs.Steps.{still_left}
use Rattle.boxed_read.proofs.hits.next_passing.Given as goal

-- no record that passes was left out, and each step is a block that is no longer to be read
abbrev pub invariant-loop-view : goal.invariant-loop-view
invariant-loop-view g l = record {
  left : filter (g.F.SpatialFilter.passing l.filter) (still_left l.fn.met) ≡ filter (g.F.SpatialFilter.passing l.filter) (still_left l.met);
  read : l.steps + length l.met.blocks ≡ l.fn.steps + length l.fn.met.blocks;
}

-- the records that are left
abbrev pub decreases-loop-view : goal.decreases-loop-view
decreases-loop-view g l = length (still_left l.met)
