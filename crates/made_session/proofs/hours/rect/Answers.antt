use Rattle.std.proofs.Common.{rules, arith, ◌≡◌, ◌+◌, ◌*◌, ap, ◌∙◌}
use Rattle.made_session.proofs.States.{after_after}
use Rattle.made_session.proofs.hours.rect.Goals as goal

pub returns-clause-rect : goal.returns-clause-rect
returns-clause-rect c = search (rules, after_after)

pub returns-clause-after : goal.returns-clause-after
returns-clause-after c = search (rules, after_after)
