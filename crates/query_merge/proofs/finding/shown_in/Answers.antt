use Rattle.query_merge.proofs.FoundInFile.{maps_due, maps_found}
use Rattle.query_merge.proofs.finding.shown_in.Goals as goal

pub returns-clause-left : goal.returns-clause-left
returns-clause-left c = maps_found c.args.image.now c.bytes.ensures.file c.args.rect c.args.zoom c.map_hits.result c.map_hits.ensures

pub returns-clause-due : goal.returns-clause-due
returns-clause-due c = maps_due c.args.image.now c.bytes.ensures.file c.args.rect c.args.zoom c.map_hits.result c.map_hits.ensures
