use Rattle.std.proofs.Common.{◌≡◌, ◌≤◌, ◌+◌, [], List, false, length}
use Rattle.layer_table.specs.Layers.{IsMap, changes_in, laid, under}
use Rattle.layer_table.proofs.merging.merged.Given as goal

abbrev pub invariant-loop-layer : goal.invariant-loop-layer
invariant-loop-layer g l = record {
  rising : IsMap g.K.Ord.cmp l.upper.changes;
  empty : l.out.changes ≡ [];
  upper_room : changes_in l.rest.items ≤ l.upper.room;
  out_room : changes_in l.rest.items + length l.upper.changes ≤ l.out.room;
  same : (map : List (g.row.K.Denot × g.row.V.Denot)) → IsMap g.K.Ord.cmp map → (l.removals ≡ false → map ≡ []) → laid g.K.Ord.cmp (under g.K.Ord.cmp map l.rest.items) l.upper.changes ≡ under g.K.Ord.cmp map l.fn.layers.items;
}

abbrev pub decreases-loop-layer : goal.decreases-loop-layer
decreases-loop-layer g l = length l.rest.items
