use Rattle.std.proofs.Common.{◌∙◌}
use Rattle.query_merge.proofs.MarkedObjects.{marks_alike}
use Rattle.query_merge.proofs.finding.decides_on.Goals as goal

pub returns : goal.returns
returns c = c.marks_has.ensures ∙ marks_alike c.args.image.now.marks c.args.id.now c.bytes.ensures.file.marks.0
