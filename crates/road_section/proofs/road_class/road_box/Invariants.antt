use Rattle.std.proofs.Common.{◌≡◌, length, map}
use Rattle.live_model.specs.Geometry.{box_around}
use Rattle.road_section.specs.Roads.{road_box}
use Rattle.road_section.proofs.road_class.road_box.Given as goal

-- the nodes that are left are still to be taken in
abbrev pub invariant-loop-others : goal.invariant-loop-others
invariant-loop-others l = box_around l.all (map (λ n. n.point) l.others) ≡ road_box l.nodes

abbrev pub decreases-loop-others : goal.decreases-loop-others
decreases-loop-others l = length l.others
