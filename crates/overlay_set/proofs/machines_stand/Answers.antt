use Rattle.overlay_set.proofs.Laws.{events, steps}
use Rattle.overlay_set.proofs.Stepping.{opened_law}
use Rattle.overlay_set.proofs.machines_stand.Goals as goal

pub returns-clause-opened : goal.returns-clause-opened
returns-clause-opened c = opened_law

pub returns-clause-step : goal.returns-clause-step
returns-clause-step c = steps

pub returns-clause-events : goal.returns-clause-events
returns-clause-events c = events
