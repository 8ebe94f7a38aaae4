use Rattle.std.proofs.Common.{◌≡◌, ◌+◌, ◌++◌, length, map}
use Rattle.std.specs.Arc.{arc_value}
use Rattle.std.specs.Prelude.{filter}
use Rattle.map_laws.specs.Laws.{untouched_by}
use Rattle.query_merge.specs.Hits.{blocks_left, hits_left}
use Rattle.obf_reader.specs.Overlays.{overlay_of}
use Rattle.query_merge.proofs.asking.drain.Given as goal

-- what is left follows what was put, and each step is a block that is no longer to be read
abbrev pub invariant-loop-hit : goal.invariant-loop-hit
invariant-loop-hit g l = record {
  left : l.found.items ++ filter (untouched_by (map overlay_of (map arc_value l.later))) (hits_left l.hits)
      ≡ l.initial.found.items ++ filter (untouched_by (map overlay_of (map arc_value l.later))) (hits_left l.initial.hits);
  read : l.steps + blocks_left l.hits ≡ l.initial.steps + blocks_left l.initial.hits;
}

abbrev pub decreases-loop-hit : goal.decreases-loop-hit
decreases-loop-hit g l = length (hits_left l.hits)
