use Rattle.live_core.proofs.Playing.{seen_events_law, seen_law}
use Rattle.live_core.proofs.laws.seen_steers_nothing.Goals as goal

pub returns-clause-event : goal.returns-clause-event
returns-clause-event c = seen_law

pub returns-clause-events : goal.returns-clause-events
returns-clause-events c = seen_events_law
