use Rattle.std.proofs.Common.{◌∙◌}
use Rattle.boxed_exact.proofs.BlockTextWalk.{text_before}
use Rattle.boxed_exact.proofs.block_texts.text_of.Goals as goal

pub returns : goal.returns
returns c fields e = c.text_at.ensures fields e ∙ text_before _ c.args.number c.if-number-eq0.false
