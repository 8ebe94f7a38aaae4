use Rattle.poi_section.proofs.PackedPois.{packed_law, packed_read}
use Rattle.poi_section.proofs.laws.packed_categories_are_good.Goals as goal

pub returns : goal.returns
returns c = record { spelled = packed_law; read = packed_read }
