use Rattle.image_hits.proofs.RowLaws.{records_of_image}
use Rattle.image_hits.proofs.laws.image_records_are_of_the_file.Goals as goal

pub returns : goal.returns
returns c = records_of_image
