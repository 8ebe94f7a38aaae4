use Rattle.map_section.proofs.PackedMaps.{fitting}
use Rattle.map_section.proofs.laws.sound_sections_fit.Goals as goal

pub returns : goal.returns
returns c = fitting
