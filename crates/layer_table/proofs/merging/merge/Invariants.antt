use Rattle.std.proofs.Common.{◌≡◌, ◌≤◌, ◌+◌, ◌++◌, length, reverse}
use Rattle.ordered_lists.specs.Ordered.{put_all}
use Rattle.layer_table.specs.Layers.{IsMap, kept, key_of}
use Rattle.layer_table.proofs.merging.merge.Given as goal

abbrev pub invariant-loop-key : goal.invariant-loop-key
invariant-loop-key g l = record {
  older : IsMap g.K.Ord.cmp l.older.changes;
  newer : IsMap g.K.Ord.cmp l.newer.changes;
  same : kept l.removals (put_all g.K.Ord.cmp key_of l.older.changes l.newer.changes) ++ reverse l.out.changes ≡ kept l.removals (put_all g.K.Ord.cmp key_of l.fn.older.changes l.fn.newer.changes);
  room : length l.older.changes + length l.newer.changes ≤ l.out.room;
  used : l.out.room + length l.out.changes ≡ l.fn.out.room;
  regained : l.newer.room + length l.newer.changes ≡ l.fn.newer.room + length l.fn.newer.changes;
}

abbrev pub decreases-loop-key : goal.decreases-loop-key
decreases-loop-key g l = length l.older.changes + length l.newer.changes
