use Rattle.std.proofs.Common.{◌≡◌, map, ◌+◌, length}
use Rattle.std.specs.Arc.{arc_value}
use Rattle.std.specs.List.{prefix_len}
use Rattle.overlay_set.specs.Loose.{begins_in}
use Rattle.published_set.specs.Sets.{heads_in}
use Rattle.published_set.proofs.periods.count_in.Given as goal

abbrev pub invariant-loop-rest : goal.invariant-loop-rest
invariant-loop-rest l =
    (l.count + prefix_len (begins_in (record { level = l.level; hour = l.hour })) (heads_in (map arc_value l.rest))
    ≡ prefix_len (begins_in (record { level = l.level; hour = l.hour })) (heads_in (map arc_value l.images)))
    × (l.count + length l.rest ≡ length l.images)

abbrev pub decreases-loop-rest : goal.decreases-loop-rest
decreases-loop-rest l = length l.rest
