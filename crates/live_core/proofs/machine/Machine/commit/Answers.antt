use Rattle.std.proofs.Common.{◌≡◌, List, Option, Some, None, sym, ap, subst, ◌∙◌}
use Rattle.overlay_set.specs.Events.{reply_of}
use Rattle.overlay_set.specs.Machines.{Commit, NothingPlanned, at_place}
use Rattle.overlay_set.specs.Swaps.{FoldPlan}
use Rattle.published_set.specs.Sets.{PublishedSet}
use Rattle.live_core.specs.Kept.{running_over}
use Rattle.live_core.specs.Running.{IsStep, Running}
use Rattle.live_core.proofs.Keeping.{kept_stay, none_spent, plan_spent}
use Rattle.live_core.proofs.machine.Machine.commit.Goals as goal

pub invariant_of-self-in-Some-take_at : goal.invariant_of-self-in-Some-take_at
invariant_of-self-in-Some-take_at c =
    let set : PublishedSet = c.self.inside.set in
    let spent : IsStep (running_over set c.self.inside.held.items c.self.inside.plans.items) (Commit c.args.worker) (reply_of c.bring.result)
    (running_over c.bring.new.set c.self.inside.held.items c.take_at.new.places.items) =
    plan_spent set c.bring.new.set c.self.inside.held.items c.self.inside.plans.items c.take_at.new.places.items c.finish.result c.args.worker (reply_of c.bring.result)
    (ap (λ (plan : FoldPlan). Some plan) c.finish.ensures ∙ c.in-Some-take_at.ensures.item) c.take_at.ensures.places c.bring.ensures.rules c.bring.ensures.base c.bring.ensures.state
    c.bring.ensures.reply in
    kept_stay (running_over set c.self.inside.held.items c.self.inside.plans.items) (running_over c.bring.new.set c.self.inside.held.items c.take_at.new.places.items) c.self.inside.store.entities
    c.self.inside.index.map (Commit c.args.worker) c.self.invariant tt spent.next

pub returns-in-None-clause-step : goal.returns-in-None-clause-step
returns-in-None-clause-step c =
    let none : at_place c.self.inside.plans.items c.args.worker ≡ None = sym (c.in-None.ensures ∙ ap (λ (l : List (Option FoldPlan)). at_place l c.args.worker) c.as_slice.ensures.value) in
    subst (λ (r : Running). IsStep r (Commit c.args.worker) NothingPlanned r) c.self.view_is (none_spent (running_over c.self.inside.set c.self.inside.held.items c.self.inside.plans.items) c.args.worker none)
