use Rattle.live_board.proofs.Events.{folded_law, published_law}
use Rattle.live_board.proofs.board.events_are_those_of_machines.Goals as goal

pub returns-clause-published : goal.returns-clause-published
returns-clause-published c = published_law

pub returns-clause-folded : goal.returns-clause-folded
returns-clause-folded c = folded_law
