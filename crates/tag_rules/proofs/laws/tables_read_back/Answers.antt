use Rattle.tag_rules.proofs.CanonicalRules.{text_back}
use Rattle.tag_rules.proofs.laws.tables_read_back.Goals as goal

pub returns : goal.returns
returns c = text_back
