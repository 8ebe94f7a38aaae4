use Rattle.std.proofs.Common.{Some, None, ◌∙◌, ap, sym}
use Rattle.std.specs.Option.{option_copied}
use Rattle.change_diff.proofs.Writing.{looked_fit}
use Rattle.change_diff.proofs.comparing.records_fit.Goals as goal

pub returns-in-Some : goal.returns-in-Some
returns-in-Some c = λ good. looked_fit c.args.rules.now c.args.look.now c.args.id.now (Some c.in-Some.entity.now) c.as_slice-rules.ensures.rules (sym (ap option_copied c.in-Some.is) ∙ c.get.ensures.found) c.are_texts.ensures good

pub returns-in_default : goal.returns-in_default
returns-in_default c = λ good. looked_fit c.args.rules.now c.args.look.now c.args.id.now None c.as_slice-rules.ensures.rules (sym (ap option_copied c.in_default.is) ∙ c.get.ensures.found) tt good
