use Rattle.overlay_set.proofs.Laws.{asks, seen, stays}
use Rattle.overlay_set.proofs.machines_answer_as_the_map_made_anew.Goals as goal

pub returns-clause-seen : goal.returns-clause-seen
returns-clause-seen c = seen

pub returns-clause-asked : goal.returns-clause-asked
returns-clause-asked c = asks

pub returns-clause-stays : goal.returns-clause-stays
returns-clause-stays c = stays
