use Rattle.overlay_set.proofs.Laws.{journals, swaps}
use Rattle.overlay_set.proofs.Stepping.{opening_stands}
use Rattle.overlay_set.proofs.sets_stand.Goals as goal

pub returns-clause-opening : goal.returns-clause-opening
returns-clause-opening c = opening_stands

pub returns-clause-swap : goal.returns-clause-swap
returns-clause-swap c = swaps

pub returns-clause-journal : goal.returns-clause-journal
returns-clause-journal c = journals
