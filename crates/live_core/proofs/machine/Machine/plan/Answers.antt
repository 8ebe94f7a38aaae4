use Rattle.std.proofs.Common.{List, Option, map, ap, ◌∙◌}
use Rattle.std.specs.Prelude.{slice_set}
use Rattle.overlay_set.specs.Machines.{Plan}
use Rattle.overlay_set.specs.Swaps.{FoldPlan}
use Rattle.published_set.specs.Sets.{rules_of}
use Rattle.live_core.specs.Kept.{running_over, state_in}
use Rattle.live_core.proofs.Keeping.{kept_stay}
use Rattle.live_core.proofs.machine.Machine.plan.Goals as goal

pub invariant_of-self : goal.invariant_of-self
invariant_of-self c =
    kept_stay (running_over c.self.inside.set c.self.inside.held.items c.self.inside.plans.items) (running_over c.self.inside.set c.self.inside.held.items c.put_at.new.places.items) c.self.inside.store.entities c.self.inside.index.map (Plan c.args.worker) c.self.invariant tt
    (ap (λ (plans : List (Option FoldPlan)). record { rules = rules_of c.self.inside.set; base = c.self.inside.set.base; now = c.self.inside.set.state; held = map state_in c.self.inside.held.items; plans = plans })
    (c.put_at.ensures ∙ ap (λ (plan : Option FoldPlan). slice_set c.self.inside.plans.items c.args.worker plan) c.in_ok-plan.ensures.plan))
