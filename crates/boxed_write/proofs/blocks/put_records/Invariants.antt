use Rattle.std.proofs.Common.{◌≡◌, ◌++◌, length}
use Rattle.std.specs.List.{AllByRecursion}
use Rattle.boxed_write.specs.Packed.{records_behind}
use Rattle.boxed_write.specs.Classes.{items_of, IsNamedIn}
use Rattle.boxed_write.proofs.blocks.put_records.Given as goal

-- what is still to be appended, and what is known of it
abbrev pub invariant-loop-rest : goal.invariant-loop-rest
invariant-loop-rest g l = let m = g.C.WriteClass in record {
  done : l.out ++ records_behind m.packing l.texts l.before (items_of l.rest) ≡ l.initial.out ++ records_behind m.packing l.texts 0 (items_of l.records);
  fits : AllByRecursion m.fits (items_of l.rest);
  known : AllByRecursion (IsNamedIn m.packing l.texts) (items_of l.rest);
}

abbrev pub decreases-loop-rest : goal.decreases-loop-rest
decreases-loop-rest g l = length l.rest
