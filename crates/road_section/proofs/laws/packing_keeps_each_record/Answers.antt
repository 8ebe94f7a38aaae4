use Rattle.road_section.proofs.PackedRouting.{kept}
use Rattle.road_section.proofs.laws.packing_keeps_each_record.Goals as goal

pub returns : goal.returns
returns c = kept
