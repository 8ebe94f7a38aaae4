use Rattle.overlay_set.proofs.Ageing.{same_age_law}
use Rattle.overlay_set.proofs.Later.{journal_law}
use Rattle.overlay_set.proofs.later_is_an_order.Goals as goal

pub returns-clause-journal : goal.returns-clause-journal
returns-clause-journal c = journal_law

pub returns-clause-age : goal.returns-clause-age
returns-clause-age c = same_age_law
