use Rattle.std.proofs.Common.{◌≡◌, ◌++◌, length}
use Rattle.std.specs.List.{AllByRecursion}
use Rattle.boxed_write.specs.Classes.{held}
use Rattle.boxed_write.proofs.Sorting.{AreUp}
use Rattle.poi_section.specs.Packed.{IsPlaced, category_cmp, packed_pois}
use Rattle.poi_section.proofs.writing.put_groups.Given as goal

-- what is still to be appended, and what is known of it
abbrev pub invariant-loop-rest : goal.invariant-loop-rest
invariant-loop-rest l = record {
  done : l.out ++ packed_pois (held l.rest) ≡ l.initial.out ++ packed_pois (held l.records);
  up : AreUp category_cmp (held l.rest);
  placed : AllByRecursion IsPlaced (held l.rest);
}

abbrev pub decreases-loop-rest : goal.decreases-loop-rest
decreases-loop-rest l = length l.rest
