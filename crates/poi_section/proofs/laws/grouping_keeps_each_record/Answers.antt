use Rattle.poi_section.proofs.PackedPois.{kept}
use Rattle.poi_section.proofs.laws.grouping_keeps_each_record.Goals as goal

pub returns : goal.returns
returns c = kept
