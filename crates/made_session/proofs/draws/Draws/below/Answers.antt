use Rattle.std.proofs.Common.{rules, arith, ◌≡◌, ◌<◌, ℕ, ◌+◌, ◌*◌, ◌/◌, ◌%◌, ◌^◌, ap, ◌∙◌}
use Rattle.made_session.specs.Draws.{drawn, next_state, state_after}
use Rattle.made_session.proofs.draws.Draws.below.Goals as goal

-- src/draws.rt:35:5
pub returns-clause-drawn : goal.returns-clause-drawn
unfolding state_after
returns-clause-drawn c = search rules

-- src/draws.rt:35:5
pub returns-clause-after : goal.returns-clause-after
unfolding state_after
returns-clause-after c = search rules
