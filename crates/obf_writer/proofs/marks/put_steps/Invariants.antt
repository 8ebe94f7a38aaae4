use Rattle.std.proofs.Common.{◌≡◌, ◌++◌, length, map}
use Rattle.std.specs.Prelude.{flat_map}
use Rattle.std.specs.List.{AllByRecursion}
use Rattle.live_model.specs.Ids.{IsId, ordinal}
use Rattle.obf_wire.specs.Varint.{varint}
use Rattle.obf_writer.specs.PackedFile.{steps_from}
use Rattle.obf_writer.proofs.marks.put_steps.Given as goal

-- what is still to be appended; and the marks that were read are ids
abbrev pub invariant-loop-rest : goal.invariant-loop-rest
invariant-loop-rest l = record {
  steps : l.out ++ flat_map varint (steps_from l.before (map ordinal l.rest)) ≡ l.initial.out ++ flat_map varint (steps_from 0 (map ordinal l.marks));
  ids : AllByRecursion IsId l.rest → AllByRecursion IsId l.marks;
}

abbrev pub decreases-loop-rest : goal.decreases-loop-rest
decreases-loop-rest l = length l.rest
