use Rattle.tag_rules.proofs.Texts.{category_text}
use Rattle.tag_rules.proofs.values.name.Goals as goal

pub returns-in-Err : goal.returns-in-Err
returns-in-Err c = absurd (category_text c.args.category.now c.in-Err.ensures.cases.0 c.requires)
