use Rattle.std.proofs.Common.{◌≡◌, map, sym, ap, subst, ◌∙◌}
use Rattle.std.specs.Arc.{arc_value}
use Rattle.overlay_set.specs.Sets.{images_of}
use Rattle.overlay_set.specs.Swaps.{FoldPlan}
use Rattle.published_set.specs.Sets.{images_in}
use Rattle.published_set.proofs.Files.{images_are, images_length}
use Rattle.published_set.proofs.plan.FoldPlan.images.Goals as goal

pub returns : goal.returns
returns c = subst (λ (plan : FoldPlan). images_in (map arc_value c.as_slice.result.now) ≡ images_of plan.files) c.self.view_is
    (ap (λ images. images_in (map arc_value images)) c.as_slice.ensures.value
    ∙ sym (images_are c.self.inside.numbers.items (images_in (map arc_value c.self.inside.images.items)) (c.self.invariant ∙ sym (images_length arc_value c.self.inside.images.items))))
