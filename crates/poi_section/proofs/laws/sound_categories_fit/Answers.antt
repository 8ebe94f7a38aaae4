use Rattle.poi_section.proofs.PackedPois.{fitting}
use Rattle.poi_section.proofs.laws.sound_categories_fit.Goals as goal

pub returns : goal.returns
returns c = fitting
