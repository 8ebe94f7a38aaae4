use Rattle.poi_section.proofs.PackedGroups.{packed_groups, packed_groups_read}
use Rattle.poi_section.proofs.laws.packed_pois_are_good.Goals as goal

pub returns : goal.returns
returns c = record { spelled = packed_groups; read = packed_groups_read }
