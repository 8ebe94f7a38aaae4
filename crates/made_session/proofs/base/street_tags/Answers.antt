use Rattle.std.proofs.Common.{rules, subst, sym}
use Rattle.live_model.specs.Objects.{AreTags}
use Rattle.made_session.proofs.Streets.{keys_rise}
use Rattle.made_session.proofs.base.street_tags.Goals as goal

pub returns-clause-good : goal.returns-clause-good
returns-clause-good c = search (rules, keys_rise)
