use Rattle.std.proofs.Common.{map, sym, ap, subst, ◌∙◌}
use Rattle.std.specs.Arc.{arc_value}
use Rattle.live_model.specs.declared.levels.Level.{Level}
use Rattle.published_set.specs.Images.{image_of}
use Rattle.fold_merge.specs.Folds.{IsFoldOf}
use Rattle.fold_sets.specs.Folding.{CanBecomeOne}
use Rattle.fold_sets.proofs.Finishing.{accepted_law, finished_law}
use Rattle.fold_sets.proofs.folding.fold_plan.Goals as goal

pub fold_images-requires : goal.fold_images-requires
fold_images-requires c =
    subst (λ (level : Level). CanBecomeOne level (map arc_value c.images.result.now)) (sym c.level.ensures)
    (accepted_law c.args.plan.now c.requires.state (map arc_value c.images.result.now) c.requires.rising c.requires.fits c.images.ensures)

pub returns : goal.returns
returns c =
    ap image_of c.in_ok-shared.ensures.ok
    ∙ finished_law c.args.plan.now (map arc_value c.images.result.now) c.in_ok-image.image c.images.ensures
    (subst (λ (level : Level). IsFoldOf level (map arc_value c.images.result.now) c.in_ok-image.image) c.level.ensures c.in_ok-image.ensures)
