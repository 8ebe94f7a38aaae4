use Rattle.overlay_set.proofs.Laws.{answers, shows}
use Rattle.overlay_set.proofs.sets_answer_as_the_map_made_anew.Goals as goal

pub returns-clause-shown : goal.returns-clause-shown
returns-clause-shown c = shows

pub returns-clause-answer : goal.returns-clause-answer
returns-clause-answer c = answers
