use Rattle.std.proofs.Common.{◌≡◌, ◌≤◌, ℕ, ◌+◌, length, map, sym, ap, subst, ◌∙◌, arith}
use Rattle.std.specs.Arc.{arc_value}
use Rattle.overlay_set.specs.Sets.{age, greatest}
use Rattle.published_set.specs.Sets.{PublishedSet, images_in}
use Rattle.published_set.proofs.Files.{images_length, numbers_are}
use Rattle.published_set.proofs.Adding.{entries_length, small_age}
use Rattle.published_set.proofs.set.OverlaySet.next_number.Goals as goal

pub overflow_add-result : goal.overflow_add-result
overflow_add-result c =
    let aged : c.greatest.result ≡ age c.args.self.now.state =
    subst (λ (s : PublishedSet). c.greatest.result ≡ age s.state) c.self.view_is
    (c.greatest.ensures ∙ ap greatest (c.as_slice.ensures.value
    ∙ sym (numbers_are c.self.inside.numbers.items (images_in (map arc_value c.self.inside.images.items)) (c.self.invariant.0 ∙ sym (images_length arc_value c.self.inside.images.items))))) in
    let few = subst (λ (s : PublishedSet). length s.state.history ≤ 65536) c.self.view_is (omega (arith, entries_length c.self.inside.history.items, c.self.invariant.4)) in
    omega (arith, aged, small_age c.args.self.now c.requires few)

pub returns : goal.returns
returns c =
    subst (λ (s : PublishedSet). c.greatest.result + 1 ≡ age s.state + 1) c.self.view_is
    (ap (λ (n : ℕ). n + 1) (c.greatest.ensures ∙ ap greatest (c.as_slice.ensures.value
    ∙ sym (numbers_are c.self.inside.numbers.items (images_in (map arc_value c.self.inside.images.items)) (c.self.invariant.0 ∙ sym (images_length arc_value c.self.inside.images.items))))))
