use Rattle.std.proofs.Common.{◌≡◌, map, sym, subst, ◌∙◌}
use Rattle.std.specs.Arc.{arc_value}
use Rattle.overlay_set.specs.Sets.{numbers_of}
use Rattle.overlay_set.specs.Swaps.{FoldPlan}
use Rattle.published_set.specs.Sets.{images_in}
use Rattle.published_set.proofs.Files.{images_length, numbers_are}
use Rattle.published_set.proofs.plan.FoldPlan.numbers.Goals as goal

pub returns : goal.returns
returns c = subst (λ (plan : FoldPlan). c.as_slice.result.now ≡ numbers_of plan.files) c.self.view_is
    (c.as_slice.ensures.value
    ∙ sym (numbers_are c.self.inside.numbers.items (images_in (map arc_value c.self.inside.images.items)) (c.self.invariant ∙ sym (images_length arc_value c.self.inside.images.items))))
