use Rattle.std.proofs.Common.{◌≡◌, List, Option, Some, None, map, sym, ap, subst, ◌∙◌}
use Rattle.live_model.specs.declared.rules.Rule.{Rule}
use Rattle.live_model.specs.Maps.{answer}
use Rattle.std.proofs.Common.{length, IfOk}
use Rattle.overlay_set.specs.Events.{reply_of}
use Rattle.overlay_set.specs.Machines.{Reply, Rows, NotTaken, asked, at_place, limits_of_a_board}
use Rattle.overlay_set.specs.Sets.{State, shown}
use Rattle.overlay_set.specs.Standing.{Stands}
use Rattle.published_set.specs.Sets.{PublishedSet, rules_of}
use Rattle.live_core.specs.Kept.{state_in}
use Rattle.live_core.specs.Running.{Running}
use Rattle.set_events.proofs.Preparing.{rules_held}
use Rattle.live_core.proofs.Keeping.{at_mapped, held_stands, stands_held}
use Rattle.live_core.proofs.machine.Machine.ask.Goals as goal

pub answered-requires : goal.answered-requires
answered-requires c =
    let set : PublishedSet = c.self.inside.set in
    let there : at_place c.self.inside.held.items c.args.pass ≡ Some c.in-Some.set.now = sym (c.in-Some.ensures ∙ ap (λ (l : List (Option PublishedSet)). at_place l c.args.pass) c.as_slice.ensures.value) in
    stands_held (rules_of set) set.base c.in-Some.set.now (held_stands set c.self.inside.held.items c.self.inside.plans.items c.self.inside.store.entities c.self.inside.index.map c.args.pass c.in-Some.set.now c.self.invariant there)

pub returns-in-None : goal.returns-in-None
returns-in-None c =
    let set : PublishedSet = c.self.inside.set in
    let none : at_place c.self.inside.held.items c.args.pass ≡ None = sym (c.in-None.ensures ∙ ap (λ (l : List (Option PublishedSet)). at_place l c.args.pass) c.as_slice.ensures.value) in
    subst (λ (r : Running). NotTaken ≡ asked limits_of_a_board r.rules r.base (at_place r.held c.args.pass) c.args.query.now) c.self.view_is
    (ap (λ (o : Option State). asked limits_of_a_board (rules_of set) set.base o c.args.query.now) (sym (at_mapped c.self.inside.held.items c.args.pass ∙ ap state_in none)))

pub returns-in-Some : goal.returns-in-Some
returns-in-Some c =
    let set : PublishedSet = c.self.inside.set in
    let there : at_place c.self.inside.held.items c.args.pass ≡ Some c.in-Some.set.now = sym (c.in-Some.ensures ∙ ap (λ (l : List (Option PublishedSet)). at_place l c.args.pass) c.as_slice.ensures.value) in
    let st : Stands (rules_of set) set.base c.in-Some.set.now.state = held_stands set c.self.inside.held.items c.self.inside.plans.items c.self.inside.store.entities c.self.inside.index.map c.args.pass c.in-Some.set.now c.self.invariant there in
    let here : Reply = Rows (length c.in-Some.set.now.state.history) (answer (rules_of c.in-Some.set.now) c.args.query.now (shown c.in-Some.set.now.state.files)) in
    let e : here ≡ asked limits_of_a_board (rules_of set) set.base (at_place (map state_in c.self.inside.held.items) c.args.pass) c.args.query.now =
    ap (λ (rs : List Rule). Rows (length c.in-Some.set.now.state.history) (answer rs c.args.query.now (shown c.in-Some.set.now.state.files))) (rules_held (rules_of set) set.base c.in-Some.set.now st)
    ∙ ap (λ (o : Option State). asked limits_of_a_board (rules_of set) set.base o c.args.query.now) (sym (at_mapped c.self.inside.held.items c.args.pass ∙ ap state_in there)) in
    subst (λ (r : Running). IfOk c.answered.result (λ reply. reply_of reply ≡ asked limits_of_a_board r.rules r.base (at_place r.held c.args.pass) c.args.query.now)) c.self.view_is
    (subst (λ (a : Reply). IfOk c.answered.result (λ reply. reply_of reply ≡ a)) e c.answered.ensures)
