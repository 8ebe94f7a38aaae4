use Rattle.std.proofs.Common.{◌≡◌, [], sym, ap, subst, ◌∙◌}
use Rattle.std.specs.Arc.{arc_value}
use Rattle.live_model.specs.Stores.{apply}
use Rattle.overlay_set.specs.Sets.{Image}
use Rattle.live_core.specs.Kept.{IsKept, running_over}
use Rattle.live_core.specs.Running.{Running, begun}
use Rattle.live_core.proofs.Keeping.{begun_is, kept_begun}
use Rattle.live_core.proofs.machine.Machine.new.Goals as goal

store_is : (c : goal.In_ok-plans) → c.in_ok-store.store.entities ≡ apply [] (arc_value c.args.base)
store_is c = c.in_ok-store.ensures.store ∙ ap (apply []) (c.as_slice.ensures ∙ c.deref.ensures)

-- it is the machine at the beginning
begins : (c : goal.In_ok-plans) → running_over c.in_ok-set.set c.in_ok-held.held.items c.in_ok-plans.plans.items ≡ begun c.args.rules.now (arc_value c.args.base) c.args.passes c.args.workers
begins c =
    let table : (arc_value c.in_ok-image.image).rules ≡ c.args.rules.now = ap (λ (i : Image). i.rules) (c.in_ok-image.ensures (arc_value c.args.base) (sym (store_is c))) in
    begun_is c.in_ok-set.set c.in_ok-held.held.items c.in_ok-plans.plans.items c.args.rules.now (arc_value c.in_ok-image.image).rules (arc_value c.args.base) c.args.passes c.args.workers c.in_ok-set.ensures.set table
    c.in_ok-held.ensures c.in_ok-plans.ensures

pub invariant_of-result : goal.invariant_of-result
invariant_of-result c =
    subst (λ (r : Running). IsKept r c.in_ok-store.store.entities c.in_ok-index.index.map) (sym (begins c))
    (kept_begun c.args.rules.now (arc_value c.args.base) c.args.passes c.args.workers c.in_ok-store.store.entities c.in_ok-index.index.map c.requires.good (store_is c) c.in_ok-index.ensures.index)

pub returns : goal.returns
returns c = begins c
