use Rattle.std.proofs.Common.{◌≡◌, ℕ, ◌+◌, ◌<◌, ◌^◌, length, map, true, false, sym, ap, subst, ◌∙◌, arith}
use Rattle.std.specs.Prelude.{MatchOption, SomeIff}
use Rattle.std.specs.Arc.{arc_value}
use Rattle.overlay_set.specs.Sets.{age, greatest, numbers_of}
use Rattle.published_set.specs.Ops.{has_number_left}
use Rattle.published_set.specs.Sets.{PublishedSet, files_of, images_in}
use Rattle.published_set.proofs.Adding.{number_told}
use Rattle.published_set.proofs.Files.{files_length, images_length, numbers_are, seen_length}
use Rattle.published_set.proofs.set.OverlaySet.number_left.Goals as goal

pub returns : goal.returns
returns c =
    let even = c.self.invariant.0 ∙ sym (seen_length arc_value c.self.inside.images.items) in
    let count : length (files_of c.self.inside.numbers.items (images_in (map arc_value c.self.inside.images.items))) ≡ length c.self.inside.images.items =
    files_length c.self.inside.numbers.items (map arc_value c.self.inside.images.items) even ∙ seen_length arc_value c.self.inside.images.items in
    let aged : c.greatest.result ≡ greatest (numbers_of (files_of c.self.inside.numbers.items (images_in (map arc_value c.self.inside.images.items)))) =
    c.greatest.ensures ∙ ap greatest (c.as_slice.ensures.value
    ∙ sym (numbers_are c.self.inside.numbers.items (images_in (map arc_value c.self.inside.images.items)) (c.self.invariant.0 ∙ sym (images_length arc_value c.self.inside.images.items)))) in
    subst (λ (s : PublishedSet). MatchOption c.checked_add.result (has_number_left s.state ≡ false) (λ n. (has_number_left s.state ≡ true) × (n ≡ age s.state + 1))) c.self.view_is
    (number_told (length (files_of c.self.inside.numbers.items (images_in (map arc_value c.self.inside.images.items)))) (greatest (numbers_of (files_of c.self.inside.numbers.items (images_in (map arc_value c.self.inside.images.items))))) c.checked_add.result
    (grind (arith, count, c.self.invariant.0, c.is_empty.ensures, c.if-is_empty.false))
    (subst (λ (g : ℕ). SomeIff c.checked_add.result (g + 1 < 2 ^ 64) (g + 1)) aged c.checked_add.ensures))
