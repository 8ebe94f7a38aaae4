use Rattle.overlay_set.proofs.Laws.{reached_chain, reached_later, reached_stands}
use Rattle.overlay_set.proofs.sets_are_reached.Goals as goal

pub returns-clause-later : goal.returns-clause-later
returns-clause-later c = reached_later

pub returns-clause-chain : goal.returns-clause-chain
returns-clause-chain c = reached_chain

pub returns-clause-stands : goal.returns-clause-stands
returns-clause-stands c = reached_stands
