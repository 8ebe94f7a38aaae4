use Rattle.std.proofs.Common.{rules, arith, ◌≡◌, ◌<◌, ℕ, ◌+◌, ◌*◌, ◌/◌, ◌%◌, ◌^◌, ap, ◌∙◌}
use Rattle.made_session.specs.Draws.{drawn, state_after}
use Rattle.made_session.specs.Loads.{drawn_point}
use Rattle.made_session.proofs.States.{after_after}
use Rattle.made_session.proofs.draws.Draws.point.Goals as goal

-- src/draws.rt:49:5
pub returns-clause-point : goal.returns-clause-point
returns-clause-point c = search (rules, after_after)

-- src/draws.rt:49:5
pub returns-clause-after : goal.returns-clause-after
returns-clause-after c = search (rules, after_after)
