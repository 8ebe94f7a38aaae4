use Rattle.std.specs.Prelude.{length}
use Rattle.boxed_read.specs.Steps.{still_left}
use Rattle.file_vectors.proofs.files.put_all.Given as goal

abbrev pub invariant-loop-view : goal.invariant-loop-view
invariant-loop-view g l = Unit {0}

-- the records that are left
abbrev pub decreases-loop-view : goal.decreases-loop-view
decreases-loop-view g l = length (still_left l.views)
