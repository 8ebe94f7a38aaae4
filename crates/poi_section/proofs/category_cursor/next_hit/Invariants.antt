use Rattle.std.specs.Prelude.{◌≡◌, ◌+◌, length, None}
use Rattle.poi_section.specs.CategoryHits.{all_hits, joined_hits}
use Rattle.poi_section.proofs.category_cursor.next_hit.Given as goal

-- no record was left out, and each step is a block that is no longer to be read
abbrev pub invariant-loop-next : goal.invariant-loop-next
invariant-loop-next g l = record {
  left : (all_hits l.fn.here l.fn.groups).records ≡ (joined_hits l.groups).records;
  none : l.here ≡ None;
  read : l.steps + (joined_hits l.groups).blocks ≡ l.fn.steps + (all_hits l.fn.here l.fn.groups).blocks;
}

abbrev pub decreases-loop-next : goal.decreases-loop-next
decreases-loop-next g l = length l.groups
