use Rattle.std.proofs.Common.{◌≡◌, ◌++◌, length}
use Rattle.std.specs.List.{AllByRecursion}
use Rattle.boxed_write.specs.Classes.{held, items_of, IsPlaced}
use Rattle.boxed_write.proofs.order.placed.Given as goal

-- the records so far, and those that are left
abbrev pub invariant-loop-rest : goal.invariant-loop-rest
invariant-loop-rest g l = record {
  done : items_of l.placed.items ++ held l.rest ≡ held l.records;
  placed : AllByRecursion (IsPlaced g.C.WriteClass.packing) l.placed.items;
}

abbrev pub decreases-loop-rest : goal.decreases-loop-rest
decreases-loop-rest g l = length l.rest
