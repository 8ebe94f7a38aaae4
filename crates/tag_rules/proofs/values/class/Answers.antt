use Rattle.std.proofs.Common.{sym, ◌∙◌}
use Rattle.tag_rules.proofs.RowReadings.{class_good}
use Rattle.tag_rules.proofs.values.class.Goals as goal

pub returns-then-stands_with-clause-good : goal.returns-then-stands_with-clause-good
returns-then-stands_with-clause-good c =
    class_good c.args.field.now.bytes.now c.args.shape c.in-Some.class (sym c.in_ok-class.ensures.class ∙ c.in-Some.is) (sym c.stands_with.ensures ∙ c.if-stands_with.true)
