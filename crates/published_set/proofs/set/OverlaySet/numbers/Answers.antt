use Rattle.std.proofs.Common.{◌≡◌, ◌≤◌, length, map, sym, subst, ◌∙◌, arith}
use Rattle.std.specs.Arc.{arc_value}
use Rattle.overlay_set.specs.Sets.{numbers_of}
use Rattle.published_set.specs.Sets.{PublishedSet, images_in}
use Rattle.published_set.proofs.Adding.{entries_length, small_age}
use Rattle.published_set.proofs.Files.{images_length, numbers_are}
use Rattle.published_set.proofs.set.OverlaySet.numbers.Goals as goal

pub returns-clause-numbers : goal.returns-clause-numbers
returns-clause-numbers c = subst (λ (s : PublishedSet). c.as_slice.result.now ≡ numbers_of s.state.files) c.self.view_is
    (c.as_slice.ensures.value ∙ sym (numbers_are c.self.inside.numbers.items (images_in (map arc_value c.self.inside.images.items)) (c.self.invariant.0 ∙ sym (images_length arc_value c.self.inside.images.items))))

pub returns-clause-small : goal.returns-clause-small
returns-clause-small c = λ st.
    small_age c.args.self.now st (subst (λ (s : PublishedSet). length s.state.history ≤ 65536) c.self.view_is (omega (arith, entries_length c.self.inside.history.items, c.self.invariant.4)))
