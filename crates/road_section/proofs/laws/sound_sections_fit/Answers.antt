use Rattle.road_section.proofs.PackedRouting.{fitting}
use Rattle.road_section.proofs.laws.sound_sections_fit.Goals as goal

pub returns : goal.returns
returns c = fitting
