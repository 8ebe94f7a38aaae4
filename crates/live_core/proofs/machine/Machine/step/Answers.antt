use Rattle.std.proofs.lemmas.Result.{IfOk-weaker}
use Rattle.overlay_set.specs.Events.{event_of, reply_of}
use Rattle.set_events.proofs.Preparing.{base_store}
use Rattle.live_core.proofs.Playing.{anew_after}
use Rattle.live_core.proofs.machine.Machine.step.Goals as goal

pub returns-clause-rows : goal.returns-clause-rows
returns-clause-rows c =
    IfOk-weaker c.take_event-answer.result _ _
    (λ reply step. anew_after c.args.self.now c.take_event-answer.new.self (event_of c.args.event.now) (reply_of reply) (base_store c.args.self.now.base c.stands.ensures.good) c.stands.ensures.machine step.answered step.next)
    c.take_event-answer.ensures.step
