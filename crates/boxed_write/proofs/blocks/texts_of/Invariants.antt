use Rattle.std.proofs.Common.{◌≡◌, length}
use Rattle.std.specs.Prelude.{flat_map}
use Rattle.boxed_write.specs.Packed.{texts_of}
use Rattle.boxed_write.specs.Classes.{items_of, nonempty, with_texts}
use Rattle.boxed_write.proofs.blocks.texts_of.Given as goal

-- the texts so far, with those of the records that are left
abbrev pub invariant-loop-rest : goal.invariant-loop-rest
invariant-loop-rest g l = let m = g.C.WriteClass in with_texts (nonempty (flat_map m.packing.texts (items_of l.rest))) l.texts ≡ texts_of m.packing (items_of l.records)

abbrev pub decreases-loop-rest : goal.decreases-loop-rest
decreases-loop-rest g l = length l.rest
