use Rattle.std.proofs.Common.{◌≡◌, ◌+◌, length}
use Rattle.boxed_write.specs.Classes.{held}
use Rattle.poi_section.specs.Packed.{run_of}
use Rattle.poi_section.proofs.writing.run_of.Given as goal

-- those that were counted, and those that are still to be
abbrev pub invariant-loop-rest : goal.invariant-loop-rest
invariant-loop-rest l = record {
  counted : l.count + run_of l.category (held l.rest) ≡ run_of l.category (held l.records);
  all : l.count + length l.rest ≡ length l.records;
}

abbrev pub decreases-loop-rest : goal.decreases-loop-rest
decreases-loop-rest l = length l.rest
