use Rattle.map_section.proofs.ObjectNumbers.{ordinal_law}
use Rattle.map_section.proofs.laws.ordinals_name_objects.Goals as goal

pub returns : goal.returns
returns c = ordinal_law
