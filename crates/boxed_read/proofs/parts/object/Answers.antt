use Rattle.boxed_read.proofs.PointWalk.{some_object}
use Rattle.boxed_read.proofs.parts.object.Goals as goal

pub unwrap-requires : goal.unwrap-requires
unwrap-requires c = some_object c.args.ordinal c.from_ordinal.result c.requires c.from_ordinal.ensures
