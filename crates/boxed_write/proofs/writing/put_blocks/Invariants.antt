use Rattle.std.proofs.Common.{◌≡◌, ◌++◌, length, map}
use Rattle.std.specs.Prelude.{flat_map}
use Rattle.std.specs.List.{range_with_len}
use Rattle.boxed_write.specs.Packed.{cut, sorted_by, leaves_from, block}
use Rattle.boxed_write.specs.Classes.{items_of}
use Rattle.boxed_write.proofs.writing.put_blocks.Given as goal

-- a leaf and the bytes of each block so far
abbrev pub invariant-loop-index : goal.invariant-loop-index
invariant-loop-index g l = let m = g.C.WriteClass in record {
  leaves : l.leaves.items ≡ leaves_from m.packing (length l.initial.out) (map (sorted_by m.packing.cmp) (map (cut 64 (items_of l.order)) (range_with_len 0 l.index)));
  bytes : l.out ≡ l.initial.out ++ flat_map (block m.packing) (map (sorted_by m.packing.cmp) (map (cut 64 (items_of l.order)) (range_with_len 0 l.index)));
}
