use Rattle.std.proofs.Common.{◌∙◌}
use Rattle.fold_merge.proofs.Marking.{marks_alike}
use Rattle.fold_merge.proofs.marks.marks.Goals as goal

pub returns : goal.returns
returns c = c.marks_has.ensures ∙ marks_alike c.args.image.now.marks c.args.id.now c.bytes.ensures.file.marks.0
