use Rattle.published_set.proofs.Heads.{settled_told}
use Rattle.published_set.proofs.set.OverlaySet.shape_is_settled.Goals as goal

pub returns-clause-shape : goal.returns-clause-shape
returns-clause-shape c = settled_told c.args.self.now c.foldable.result c.is_none.result c.is_none.ensures c.requires c.foldable.ensures
