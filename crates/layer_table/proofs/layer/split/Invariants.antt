use Rattle.std.proofs.Common.{◌≡◌, ◌+◌, length, take}
use Rattle.layer_table.proofs.layer.split.Given as goal

abbrev pub invariant-loop-key : goal.invariant-loop-key
invariant-loop-key g l = record {
  changes : l.pile.changes ≡ take (length l.yielded) l.fn.pairs.items;
  room : l.pile.room + length l.yielded ≡ length l.fn.pairs.items;
}
