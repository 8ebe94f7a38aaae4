use Rattle.road_section.proofs.PackedSection.{packed_routing_law, packed_routing_read}
use Rattle.road_section.proofs.laws.packed_routing_is_good.Goals as goal

pub returns : goal.returns
returns c = record { spelled = packed_routing_law; read = packed_routing_read }
