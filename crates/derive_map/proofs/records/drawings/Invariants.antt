use Rattle.std.proofs.Common.{◌≡◌, ◌++◌, length, map}
use Rattle.derive_map.specs.Drawings.{map_rules, drawing, drawings}
use Rattle.derive_map.specs.MapRecords.{AreNamed}
use Rattle.derive_map.proofs.records.drawings.Given as goal

-- what is still to be drawn, behind what was drawn
abbrev pub invariant-loop-index : goal.invariant-loop-index
invariant-loop-index l = record {
  drawn : l.records.items ++ map (drawing l.entity l.points) (map_rules l.matches) ≡ drawings l.rules l.entity l.points;
  named : AreNamed l.records.items;
}

abbrev pub decreases-loop-index : goal.decreases-loop-index
decreases-loop-index l = length (map_rules l.matches)
