use Rattle.query_merge.proofs.FoundInFile.{roads_due, roads_found}
use Rattle.query_merge.proofs.finding.roads_in.Goals as goal

pub returns-clause-left : goal.returns-clause-left
returns-clause-left c = roads_found c.args.image.now c.bytes.ensures.file c.args.rect c.road_hits.result c.ban_hits.result c.road_hits.ensures c.ban_hits.ensures

pub returns-clause-due : goal.returns-clause-due
returns-clause-due c = roads_due c.args.image.now c.bytes.ensures.file c.args.rect c.road_hits.result c.ban_hits.result c.road_hits.ensures c.ban_hits.ensures
