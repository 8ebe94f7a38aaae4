use Rattle.std.proofs.Common.{◌≡◌, ℕ, List, [], None, nat_cmp, sym, ap, subst, ◌∙◌}
use Rattle.std.specs.Prelude.{IsTrue}
use Rattle.std.specs.Arc.{arc_value}
use Rattle.layer_table.specs.Layers.{laid}
use Rattle.entity_store.specs.Changes.{after_changes}
use Rattle.ref_index.specs.Indexes.{Indexes}
use Rattle.live_model.specs.declared.objects.Entity.{Entity}
use Rattle.live_model.specs.declared.rules.Rule.{Rule}
use Rattle.live_model.specs.Ids.{Id}
use Rattle.live_model.specs.Stores.{apply}
use Rattle.overlay_set.specs.Machines.{Accepted, Publish, limits_of_a_board, publish, refused, with_room}
use Rattle.overlay_set.specs.Sets.{Entry, Image, State}
use Rattle.overlay_set.specs.Swaps.{Add, Takes}
use Rattle.published_set.specs.Images.{image_of}
use Rattle.published_set.specs.Ops.{has_room}
use Rattle.published_set.specs.Sets.{PublishedSet, entry_of, rules_of}
use Rattle.set_events.specs.Kept.{entry_for}
use Rattle.set_events.proofs.Publishing.{has_room_for, wanted}
use Rattle.live_core.specs.Kept.{running_over}
use Rattle.live_core.specs.Running.{Running, with_now}
use Rattle.live_core.proofs.Accepting.{CameIn, IsReady, came, came_after, came_answered, came_grown, ready_takes}
use Rattle.live_core.proofs.Keeping.{kept_beside, kept_publish}
use Rattle.live_core.proofs.machine.Machine.accept.Goals as goal

pub uncounted-requires-clause-kept : goal.uncounted-requires-clause-kept
uncounted-requires-clause-kept c = kept_beside c.self.inside.set c.self.inside.held.items c.self.inside.plans.items c.self.inside.store.entities c.self.inside.index.map c.self.invariant

pub add-requires-clause-room : goal.add-requires-clause-room
add-requires-clause-room c =
    let set : PublishedSet = c.self.inside.set in
    let not_refused : refused limits_of_a_board (rules_of set) set.base set.state c.args.stamp ≡ None =
    subst (λ (r : Running). refused limits_of_a_board r.rules r.base r.now c.args.stamp ≡ None) (sym c.self.view_is) c.requires.wanted in
    subst (λ (s : PublishedSet). IsTrue (has_room s.state)) (sym c.make_room.ensures.set)
    (has_room_for (rules_of set) set.base set.state c.args.stamp c.self.invariant.stands.stands (wanted (rules_of set) set.base set.state c.args.stamp c.self.invariant.stands.stands not_refused)
    c.room_for.ensures.most)

pub add-requires-clause-takes : goal.add-requires-clause-takes
add-requires-clause-takes c =
    let set : PublishedSet = c.self.inside.set in
    let entry : Entry = entry_for c.args.stamp c.args.tag (arc_value c.args.lines.now) in
    let image : Image = image_of (arc_value c.in_ok-prepared.prepared.image) in
    let ready : IsReady set c.self.inside.held.items c.self.inside.plans.items c.self.inside.store.entities c.self.inside.index.map entry image = record {
      kept = c.self.invariant;
      wanted = subst (λ (r : Running). refused limits_of_a_board r.rules r.base r.now c.args.stamp ≡ None) (sym c.self.view_is) c.requires.wanted;
      good = c.requires.good;
      made = c.in_ok-prepared.ensures.image;
    } in
    let room : State = with_room limits_of_a_board (rules_of set) set.base set.state in
    let takes : Takes (rules_of set) set.base room (Add entry image) =
    ready_takes set c.self.inside.held.items c.self.inside.plans.items c.self.inside.store.entities c.self.inside.index.map entry image ready in
    let here : Takes (rules_of set) set.base room (Add (entry_of c.in_ok-prepared.prepared.published) image) =
    subst (λ (e : Entry). Takes (rules_of set) set.base room (Add e image)) (sym c.in_ok-prepared.ensures.entry) takes in
    subst (λ (rs : List Rule). Takes rs c.make_room.new.set.base c.make_room.new.set.state (Add (entry_of c.in_ok-prepared.prepared.published) image)) (sym c.make_room.ensures.rules)
    (subst (λ (s : PublishedSet). Takes (rules_of set) s.base s.state (Add (entry_of c.in_ok-prepared.prepared.published) image)) (sym c.make_room.ensures.set) here)

came_in : (c : goal.After-front) → CameIn c.self.inside.set c.add.new.self (entry_for c.args.stamp c.args.tag (arc_value c.args.lines.now))
came_in c =
    let set : PublishedSet = c.self.inside.set in
    let entry : Entry = entry_for c.args.stamp c.args.tag (arc_value c.args.lines.now) in
    let image : Image = image_of (arc_value c.in_ok-prepared.prepared.image) in
    let ready : IsReady set c.self.inside.held.items c.self.inside.plans.items c.self.inside.store.entities c.self.inside.index.map entry image = record {
      kept = c.self.invariant;
      wanted = subst (λ (r : Running). refused limits_of_a_board r.rules r.base r.now c.args.stamp ≡ None) (sym c.self.view_is) c.requires.wanted;
      good = c.requires.good;
      made = c.in_ok-prepared.ensures.image;
    } in
    came set c.add.new.self c.make_room.new.set c.self.inside.held.items c.self.inside.plans.items c.self.inside.store.entities c.self.inside.index.map entry (entry_of c.in_ok-prepared.prepared.published)
    image ready c.make_room.ensures.set c.in_ok-prepared.ensures.entry c.add.ensures.set

pub invariant_of-self-2 : goal.invariant_of-self-2
invariant_of-self-2 c =
    let entry : Entry = entry_for c.args.stamp c.args.tag (arc_value c.args.lines.now) in
    let r : Running = running_over c.self.inside.set c.self.inside.held.items c.self.inside.plans.items in
    let changed : c.commit.new.self.entities ≡ apply c.self.inside.store.entities (arc_value c.args.lines.now) =
    c.commit.ensures.entities ∙ ap (λ (es : List Entity). after_changes es c.in_ok-prepared.prepared.staged) c.uncounted.ensures.entities ∙ c.in_ok-prepared.ensures.staged in
    kept_publish r (running_over c.add.new.self c.self.inside.held.items c.self.inside.plans.items) c.self.inside.store.entities c.commit.new.self.entities c.self.inside.index.map c.commit-2.new.self.map
    (Publish 0 c.args.stamp c.args.tag (arc_value c.args.lines.now)) entry c.self.invariant c.requires.good
    (came_after c.self.inside.set c.add.new.self c.self.inside.held.items c.self.inside.plans.items c.self.inside.store.entities c.self.inside.index.map entry c.self.invariant (came_in c))
    (came_grown c.self.inside.set c.add.new.self entry (came_in c))
    changed
    (subst (λ (m : List (ℕ × List Id)). Indexes m c.commit.new.self.entities) (sym (c.commit-2.ensures.map ∙ ap (λ (m : List (ℕ × List Id)). laid nat_cmp m c.in_ok-prepared.prepared.refs) c.uncounted.ensures.users))
    (subst (λ (es : List Entity). Indexes (laid nat_cmp c.self.inside.index.map c.in_ok-prepared.prepared.refs) es) (sym changed) c.in_ok-prepared.ensures.refs))

pub returns-clause-next : goal.returns-clause-next
returns-clause-next c =
    let entry : Entry = entry_for c.args.stamp c.args.tag (arc_value c.args.lines.now) in
    subst (λ (r : Running). running_over c.add.new.self c.self.inside.held.items c.self.inside.plans.items ≡ with_now r (publish limits_of_a_board r.rules r.base r.now entry).0) c.self.view_is
    (came_after c.self.inside.set c.add.new.self c.self.inside.held.items c.self.inside.plans.items c.self.inside.store.entities c.self.inside.index.map entry c.self.invariant (came_in c))

pub returns-clause-reply : goal.returns-clause-reply
returns-clause-reply c =
    let entry : Entry = entry_for c.args.stamp c.args.tag (arc_value c.args.lines.now) in
    subst (λ (r : Running). Accepted c.front.result ≡ (publish limits_of_a_board r.rules r.base r.now entry).1) c.self.view_is (came_answered c.self.inside.set c.add.new.self entry c.front.result (came_in c) c.front.ensures)
