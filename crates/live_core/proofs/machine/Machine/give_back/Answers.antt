use Rattle.std.proofs.Common.{None, refl, subst}
use Rattle.overlay_set.specs.Machines.{Done, Drop}
use Rattle.live_core.specs.Kept.{running_over}
use Rattle.live_core.specs.Running.{IsStep, Running}
use Rattle.live_core.proofs.Keeping.{kept_stay, running_held}
use Rattle.live_core.proofs.machine.Machine.give_back.Goals as goal

pub invariant_of-self : goal.invariant_of-self
invariant_of-self c =
    kept_stay (running_over c.self.inside.set c.self.inside.held.items c.self.inside.plans.items) (running_over c.self.inside.set c.put_at.new.places.items c.self.inside.plans.items) c.self.inside.store.entities c.self.inside.index.map (Drop c.args.pass) c.self.invariant tt
    (running_held c.self.inside.set c.self.inside.held.items c.put_at.new.places.items c.self.inside.plans.items c.args.pass None c.put_at.ensures)

pub returns : goal.returns
returns c =
    subst (λ (r : Running). IsStep r (Drop c.args.pass) Done (running_over c.self.inside.set c.put_at.new.places.items c.self.inside.plans.items)) c.self.view_is
    (record { next = running_held c.self.inside.set c.self.inside.held.items c.put_at.new.places.items c.self.inside.plans.items c.args.pass None c.put_at.ensures; answered = refl })
