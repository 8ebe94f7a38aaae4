use Rattle.std.proofs.Common.{◌≡◌, ◌++◌, ◌+◌, length}
use Rattle.live_model.specs.Maps.{segments_in}
use Rattle.query_merge.proofs.rows.put_segments.Given as goal

-- the segments that are left follow what was put
abbrev pub invariant-loop-rest : goal.invariant-loop-rest
invariant-loop-rest l = record {
  left : l.found.items ++ segments_in l.rect l.road l.index l.rest ≡ l.initial.found.items ++ segments_in l.rect l.road 0 l.road.nodes;
  index : l.index + length l.rest ≡ length l.road.nodes;
}

abbrev pub decreases-loop-rest : goal.decreases-loop-rest
decreases-loop-rest l = length l.rest
