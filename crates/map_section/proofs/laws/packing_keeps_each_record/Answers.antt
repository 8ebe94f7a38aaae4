use Rattle.map_section.proofs.PackedMaps.{kept}
use Rattle.map_section.proofs.laws.packing_keeps_each_record.Goals as goal

pub returns : goal.returns
returns c = kept
