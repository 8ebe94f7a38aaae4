-- A road along nodes.
use Rattle.std.specs.Prelude.{ℕ, List, codes}
use Rattle.live_model.specs.declared.objects.Entity.{Entity}
use Rattle.live_model.specs.declared.rules.Rule.{Rule}
use Rattle.live_model.specs.declared.records.RoadNode.{RoadNode}
use Rattle.live_model.specs.declared.records.RoadRec.{RoadRec}
use Rattle.live_model.specs.Records.{direction, tag_or_empty}

-- the object as a road along these nodes, by a rule
abbrev pub road_along : Entity → List RoadNode → ℕ × Rule → RoadRec
road_along e nodes r = record {
  id = e.id;
  rule = r.0;
  value = tag_or_empty r.1.key e.tags;
  dir = direction (tag_or_empty (codes "oneway") e.tags);
  nodes = nodes;
}
