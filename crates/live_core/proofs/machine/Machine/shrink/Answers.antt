use Rattle.std.proofs.Common.{sym, ap, subst, ◌∙◌}
use Rattle.overlay_set.specs.Events.{reply_of}
use Rattle.overlay_set.specs.Machines.{Reply, Shrink}
use Rattle.overlay_set.specs.Sets.{State}
use Rattle.published_set.specs.Sets.{PublishedSet, rules_of}
use Rattle.live_core.specs.Kept.{running_over}
use Rattle.live_core.specs.Running.{IsStep, Running}
use Rattle.live_core.proofs.Keeping.{kept_stay, running_moved}
use Rattle.set_events.proofs.Publishing.{Shrinks, shrinks}
use Rattle.live_core.proofs.machine.Machine.shrink.Goals as goal

pub bring-requires-clause-fits : goal.bring-requires-clause-fits
bring-requires-clause-fits c =
    (shrinks (rules_of c.self.inside.set) c.self.inside.set.base c.self.inside.set.state c.self.invariant.stands.stands c.in-Some.work (sym c.in-Some.is ∙ c.in_ok-shrunk.ensures.plan)).fits

pub invariant_of-self : goal.invariant_of-self
invariant_of-self c =
    let set : PublishedSet = c.self.inside.set in
    let s : Shrinks (rules_of set) set.base set.state c.in-Some.work = shrinks (rules_of set) set.base set.state c.self.invariant.stands.stands c.in-Some.work (sym c.in-Some.is ∙ c.in_ok-shrunk.ensures.plan) in
    kept_stay (running_over set c.self.inside.held.items c.self.inside.plans.items) (running_over c.bring.new.set c.self.inside.held.items c.self.inside.plans.items) c.self.inside.store.entities c.self.inside.index.map Shrink c.self.invariant tt
    (running_moved set c.bring.new.set c.self.inside.held.items c.self.inside.plans.items _ c.bring.ensures.rules c.bring.ensures.base (c.bring.ensures.state ∙ ap (λ (p : State × Reply). p.0) s.same))

pub returns-in-Some-clause-step : goal.returns-in-Some-clause-step
returns-in-Some-clause-step c =
    let set : PublishedSet = c.self.inside.set in
    let s : Shrinks (rules_of set) set.base set.state c.in-Some.work = shrinks (rules_of set) set.base set.state c.self.invariant.stands.stands c.in-Some.work (sym c.in-Some.is ∙ c.in_ok-shrunk.ensures.plan) in
    subst (λ (r : Running). IsStep r Shrink (reply_of c.bring.result) (running_over c.bring.new.set c.self.inside.held.items c.self.inside.plans.items)) c.self.view_is
    (record {
      next = running_moved set c.bring.new.set c.self.inside.held.items c.self.inside.plans.items _ c.bring.ensures.rules c.bring.ensures.base (c.bring.ensures.state ∙ ap (λ (p : State × Reply). p.0) s.same);
      answered = c.bring.ensures.reply ∙ ap (λ (p : State × Reply). p.1) s.same;
    })
