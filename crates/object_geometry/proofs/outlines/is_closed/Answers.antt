use Rattle.std.proofs.Common.{◌∙◌}
use Rattle.object_geometry.proofs.Closed.{closed_by_ends}
use Rattle.object_geometry.proofs.outlines.is_closed.Goals as goal

pub returns-in-len4-up : goal.returns-in-len4-up
returns-in-len4-up c = c.are_same.ensures ∙ closed_by_ends c.args.refs.now c.in-len4-up.len_at_least
