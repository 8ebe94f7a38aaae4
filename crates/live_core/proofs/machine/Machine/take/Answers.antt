use Rattle.std.proofs.Common.{◌≡◌, Some, map, refl, ap, subst, ◌∙◌}
use Rattle.std.specs.Prelude.{slice_set}
use Rattle.overlay_set.specs.Machines.{Done, Take}
use Rattle.published_set.specs.Sets.{PublishedSet, rules_of}
use Rattle.live_core.specs.Kept.{running_over, state_in}
use Rattle.live_core.specs.Running.{IsStep, Running, after_event}
use Rattle.live_core.proofs.Keeping.{kept_stay, running_held}
use Rattle.live_core.proofs.machine.Machine.take.Goals as goal

taken : (c : goal.After-put_at) → running_over c.self.inside.set c.put_at.new.places.items c.self.inside.plans.items ≡ after_event (running_over c.self.inside.set c.self.inside.held.items c.self.inside.plans.items) (Take c.args.pass)
taken c =
    running_held c.self.inside.set c.self.inside.held.items c.put_at.new.places.items c.self.inside.plans.items c.args.pass (Some c.in_ok-copied.copied) c.put_at.ensures
    ∙ ap (λ (s : PublishedSet). record {
      rules = rules_of c.self.inside.set;
      base = c.self.inside.set.base;
      now = c.self.inside.set.state;
      held = slice_set (map state_in c.self.inside.held.items) c.args.pass (Some s.state);
      plans = c.self.inside.plans.items;
    }) c.in_ok-copied.ensures

pub invariant_of-self : goal.invariant_of-self
invariant_of-self c =
    kept_stay (running_over c.self.inside.set c.self.inside.held.items c.self.inside.plans.items) (running_over c.self.inside.set c.put_at.new.places.items c.self.inside.plans.items) c.self.inside.store.entities c.self.inside.index.map (Take c.args.pass) c.self.invariant tt
    (taken c)

pub returns-clause-step : goal.returns-clause-step
returns-clause-step c =
    subst (λ (r : Running). IsStep r (Take c.args.pass) Done (running_over c.self.inside.set c.put_at.new.places.items c.self.inside.plans.items)) c.self.view_is
    (record { next = taken c; answered = refl })
