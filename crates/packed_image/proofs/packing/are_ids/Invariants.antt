use Rattle.std.proofs.Common.{length}
use Rattle.std.specs.List.{AllByRecursion}
use Rattle.live_model.specs.Ids.{IsId}
use Rattle.packed_image.proofs.packing.are_ids.Given as goal

-- where those that are left are ids of objects, all are
abbrev pub invariant-loop-rest : goal.invariant-loop-rest
invariant-loop-rest l = AllByRecursion IsId l.rest → AllByRecursion IsId l.ids

abbrev pub decreases-loop-rest : goal.decreases-loop-rest
decreases-loop-rest l = length l.rest
