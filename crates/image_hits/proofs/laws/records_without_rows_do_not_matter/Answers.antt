use Rattle.image_hits.proofs.RowLaws.{rows_of_hits}
use Rattle.image_hits.proofs.laws.records_without_rows_do_not_matter.Goals as goal

pub returns : goal.returns
returns c = rows_of_hits
