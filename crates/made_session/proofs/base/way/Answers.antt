use Rattle.std.proofs.Common.{rules, arith, ◌≡◌, ◌+◌, ◌*◌, ap, ◌∙◌}
use Rattle.made_session.proofs.base.way.Goals as goal

pub returns-clause-good : goal.returns-clause-good
returns-clause-good c = search rules
