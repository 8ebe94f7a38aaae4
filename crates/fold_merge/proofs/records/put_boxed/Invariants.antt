use Rattle.std.proofs.Common.{◌≡◌, ◌++◌, length, map}
use Rattle.std.specs.Prelude.{filter}
use Rattle.boxed_read.specs.Steps.{joined, still_left}
use Rattle.boxed_write.specs.Classes.{held}
use Rattle.map_laws.specs.Laws.{untouched_by}
use Rattle.fold_merge.specs.Folds.{overlays_of}
use Rattle.fold_merge.proofs.records.put_boxed.Given as goal

-- with what is kept of those that are left they are all that is kept
abbrev pub invariant-loop-view : goal.invariant-loop-view
invariant-loop-view g l =
    l.records.items ++ filter (untouched_by (overlays_of (held l.later))) (map g.C.RecordClass.as_record (still_left l.views))
    ≡ l.initial.records.items ++ filter (untouched_by (overlays_of (held l.later))) (map g.C.RecordClass.as_record (joined l.section.blocks))

abbrev pub decreases-loop-view : goal.decreases-loop-view
decreases-loop-view g l = length (still_left l.views)
