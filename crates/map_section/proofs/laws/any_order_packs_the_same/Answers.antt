use Rattle.map_section.proofs.PackedMaps.{any_order}
use Rattle.map_section.proofs.laws.any_order_packs_the_same.Goals as goal

pub returns : goal.returns
returns c = any_order
