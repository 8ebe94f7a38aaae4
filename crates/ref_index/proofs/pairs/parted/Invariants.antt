use Rattle.std.proofs.Common.{◌≡◌, length, map, take}
use Rattle.layer_table.specs.Layers.{key_of, value_of}
use Rattle.ref_index.proofs.pairs.parted.Given as goal

abbrev pub invariant-loop-target : goal.invariant-loop-target
invariant-loop-target l = record {
  first : l.first.items ≡ map key_of (take (length l.yielded) l.fn.pairs.items);
  second : l.second.items ≡ map value_of (take (length l.yielded) l.fn.pairs.items);
}
