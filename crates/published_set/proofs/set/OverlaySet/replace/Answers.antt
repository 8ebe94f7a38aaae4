use Rattle.std.proofs.Common.{◌≡◌, Some, None, List, ℕ, map, refl, sym, ap, ap₂, subst, ◌∙◌}
use Rattle.std.specs.Arc.{arc_value}
use Rattle.overlay_set.specs.Sets.{Image, numbers_of}
use Rattle.overlay_set.specs.Swaps.{FoldPlan, missing}
use Rattle.published_set.specs.Ops.{with_file}
use Rattle.published_set.specs.Runs.{first_missing}
use Rattle.published_set.specs.Sets.{IsStanding, PublishedSet, entry_of, files_of, images_in}
use Rattle.published_set.proofs.Files.{images_length}
use Rattle.published_set.proofs.Replacing.{folded_stands, missing_is}
use Rattle.published_set.proofs.set.OverlaySet.replace.Goals as goal

pub returns-in-None-clause-standing : goal.returns-in-None-clause-standing
returns-in-None-clause-standing c =
    subst IsStanding
    (sym (c.put_fold.ensures
    ∙ ap₂ (λ (names : List ℕ) (image : Image). record { base = c.args.self.now.base; state = with_file names image c.args.self.now.state })
    (c.numbers.ensures ∙ ap (λ (plan : FoldPlan). numbers_of plan.files) c.into_parts-plan.ensures.plan) c.into_parts-plan.ensures.image))
    (folded_stands c.args.self.now c.args.work c.requires.standing c.requires.fits (sym c.in-None.ensures))
