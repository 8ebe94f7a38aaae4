use Rattle.poi_section.proofs.PackedGroups.{fitting_groups}
use Rattle.poi_section.proofs.laws.sound_pois_fit.Goals as goal

pub returns : goal.returns
returns c = fitting_groups
