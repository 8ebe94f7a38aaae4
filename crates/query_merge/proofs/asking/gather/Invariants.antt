use Rattle.std.proofs.Common.{◌≡◌, ◌+◌, ◌++◌, length, map}
use Rattle.std.specs.Arc.{arc_value}
use Rattle.query_merge.specs.Gathering.{found_over}
use Rattle.query_merge.specs.Questions.{due_over}
use Rattle.query_merge.proofs.asking.gather.Given as goal

-- what is found in the images that are left follows what was found
abbrev pub invariant-loop-image : goal.invariant-loop-image
invariant-loop-image g l = record {
  left : l.found.items ++ found_over l.query (map arc_value l.rest) ≡ found_over l.query (map arc_value l.images);
  read : l.steps + due_over l.query (map arc_value l.rest) ≡ l.initial.steps + due_over l.query (map arc_value l.images);
}

abbrev pub decreases-loop-image : goal.decreases-loop-image
decreases-loop-image g l = length l.rest
