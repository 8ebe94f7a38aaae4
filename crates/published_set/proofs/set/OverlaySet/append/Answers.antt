use Rattle.std.proofs.Common.{◌≡◌, ◌+◌, ◌++◌, IsTrue, [], ◌∷◌, map, sym, ap, ap₂, subst, ◌∙◌, arith}
use Rattle.std.specs.Arc.{arc_value}
use Rattle.overlay_set.specs.Sets.{State, age}
use Rattle.overlay_set.specs.Swaps.{Add, applied}
use Rattle.published_set.specs.Images.{image_of}
use Rattle.published_set.specs.Ops.{has_room}
use Rattle.published_set.specs.Sets.{PublishedSet, entry_of, files_of, images_in}
use Rattle.published_set.proofs.Adding.{room_left, state_added}
use Rattle.published_set.proofs.set.OverlaySet.append.Goals as goal

pub push_reserved-requires-2 : goal.push_reserved-requires-2
push_reserved-requires-2 c =
    let few = room_left arc_value c.self.inside.history.items c.self.inside.numbers.items c.self.inside.images.items c.self.invariant.0 (subst (λ (s : PublishedSet). IsTrue (has_room s.state)) (sym c.self.view_is) c.requires.room) in
    omega (arith, few.1, c.self.invariant.2)

pub push_reserved-requires-3 : goal.push_reserved-requires-3
push_reserved-requires-3 c =
    let few = room_left arc_value c.self.inside.history.items c.self.inside.numbers.items c.self.inside.images.items c.self.invariant.0 (subst (λ (s : PublishedSet). IsTrue (has_room s.state)) (sym c.self.view_is) c.requires.room) in
    omega (arith, few.1, c.self.invariant.0, c.self.invariant.3)

pub invariant_of-self : goal.invariant_of-self
invariant_of-self c =
    let few = room_left arc_value c.self.inside.history.items c.self.inside.numbers.items c.self.inside.images.items c.self.invariant.0 (subst (λ (s : PublishedSet). IsTrue (has_room s.state)) (sym c.self.view_is) c.requires.room) in (
      omega (arith, c.push_reserved-2.ensures.len, c.push_reserved-3.ensures.len, c.self.invariant.0),
      omega (arith, c.push_reserved.ensures.capacity, c.self.invariant.1),
      omega (arith, c.push_reserved-2.ensures.capacity, c.self.invariant.2),
      omega (arith, c.push_reserved-3.ensures.capacity, c.self.invariant.3),
      omega (arith, c.push_reserved.ensures.len, few.0),
      omega (arith, c.push_reserved-2.ensures.len, few.1),
    )

pub returns : goal.returns
returns c =
    let viewed = state_added arc_value c.self.inside.history.items c.args.published c.self.inside.numbers.items c.self.inside.images.items c.args.number c.args.image c.self.invariant.0
    (subst (λ (s : PublishedSet). c.args.number ≡ age s.state + 1) (sym c.self.view_is) c.requires.number) in
    subst (λ (s : PublishedSet). record {
      base = arc_value c.self.inside.base_lines;
      state = record {
        history = map entry_of c.push_reserved.new.self.items;
        files = files_of c.push_reserved-2.new.self.items (images_in (map arc_value c.push_reserved-3.new.self.items));
      };
    } ≡ record { base = s.base; state = applied s.state (Add (entry_of c.args.published) (image_of (arc_value c.args.image))) }) c.self.view_is
    (ap (λ (state : State). record { base = arc_value c.self.inside.base_lines; state = state })
    (ap (λ items. record { history = map entry_of items; files = files_of c.push_reserved-2.new.self.items (images_in (map arc_value c.push_reserved-3.new.self.items)) }) c.push_reserved.ensures.items
    ∙ ap₂ (λ numbers images. record { history = map entry_of (c.self.inside.history.items ++ c.args.published ∷ []); files = files_of numbers (images_in (map arc_value images)) }) c.push_reserved-2.ensures.items c.push_reserved-3.ensures.items ∙ viewed))
