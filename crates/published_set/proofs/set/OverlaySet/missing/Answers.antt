use Rattle.std.proofs.Common.{◌≡◌, refl, sym, map, ap₂, subst, ◌∙◌}
use Rattle.std.specs.Arc.{arc_value}
use Rattle.overlay_set.specs.Swaps.{missing}
use Rattle.published_set.specs.Runs.{first_missing}
use Rattle.published_set.specs.Sets.{PublishedSet, entry_of, files_of, images_in}
use Rattle.published_set.proofs.Files.{images_length}
use Rattle.published_set.proofs.Replacing.{missing_is}
use Rattle.published_set.proofs.set.OverlaySet.missing.Goals as goal

pub returns : goal.returns
returns c =
    subst (λ (s : PublishedSet). c.first_missing.result ≡ missing c.args.work.now s.state) c.self.view_is
    (c.first_missing.ensures ∙ ap₂ first_missing c.numbers.ensures c.as_slice.ensures.value
    ∙ missing_is c.args.work.now (record { history = map entry_of c.self.inside.history.items; files = files_of c.self.inside.numbers.items (images_in (map arc_value c.self.inside.images.items)) }) c.self.inside.numbers.items
    (images_in (map arc_value c.self.inside.images.items)) (c.self.invariant.0 ∙ sym (images_length arc_value c.self.inside.images.items)) refl)
