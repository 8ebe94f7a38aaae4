use Rattle.road_section.proofs.PackedRouting.{packed_law, packed_read}
use Rattle.road_section.proofs.laws.packed_sections_are_good.Goals as goal

pub returns : goal.returns
returns c = record { spelled = packed_law; read = packed_read }
