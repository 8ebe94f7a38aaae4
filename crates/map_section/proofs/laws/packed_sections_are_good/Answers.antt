use Rattle.map_section.proofs.PackedMaps.{packed_law}
use Rattle.map_section.proofs.PackedMaps.{packed_read}
use Rattle.map_section.proofs.laws.packed_sections_are_good.Goals as goal

pub returns : goal.returns
returns c = record { spelled = packed_law; read = packed_read }
