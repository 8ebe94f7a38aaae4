use Rattle.std.proofs.Common.{◌∷◌, [], ◌++◌, sym, ap, ◌∙◌}
use Rattle.tag_rules.proofs.Tags.{range_more}
use Rattle.tag_rules.proofs.places.places.Goals as goal

pub loop-place-preserved : goal.loop-place-preserved
loop-place-preserved c = c.in_ok-push.ensures.items ∙ ap (λ xs. xs ++ c.loop-place.place ∷ []) c.loop-place.invariant ∙ sym (range_more c.loop-place.place)
