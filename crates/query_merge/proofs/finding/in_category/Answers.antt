use Rattle.query_merge.proofs.FoundInFile.{pois_due, pois_found}
use Rattle.query_merge.proofs.finding.in_category.Goals as goal

pub returns-clause-left : goal.returns-clause-left
returns-clause-left c = pois_found c.args.image.now c.bytes.ensures.file c.args.category.now c.args.rect c.poi_hits.result c.poi_hits.ensures

pub returns-clause-due : goal.returns-clause-due
returns-clause-due c = pois_due c.args.image.now c.bytes.ensures.file c.args.category.now c.args.rect c.poi_hits.result c.poi_hits.ensures
