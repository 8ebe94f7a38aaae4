use Rattle.image_hits.proofs.HitRows.{pois_hit}
use Rattle.image_hits.proofs.hits.poi_hits.Goals as goal

pub returns : goal.returns
returns c = pois_hit c.args.image.now c.args.category.now c.args.rect c.pois.result c.category.result c.pois.ensures c.category.ensures
