use Rattle.std.proofs.Common.{◌≡◌, map, ◌+◌, length}
use Rattle.std.specs.Arc.{arc_value}
use Rattle.overlay_set.specs.Loose.{before_loose}
use Rattle.published_set.specs.Sets.{heads_in}
use Rattle.published_set.proofs.periods.before_loose.Given as goal

abbrev pub invariant-loop-rest : goal.invariant-loop-rest
invariant-loop-rest l =
    (l.count + before_loose l.whole l.last (heads_in (map arc_value l.rest)) ≡ before_loose l.whole l.last (heads_in (map arc_value l.images)))
    × (l.count + length l.rest ≡ length l.images)

abbrev pub decreases-loop-rest : goal.decreases-loop-rest
decreases-loop-rest l = length l.rest
