use Rattle.boxed_write.specs.Classes.{held}
use Rattle.fold_merge.proofs.Ended.{can_be_packed}
use Rattle.fold_merge.proofs.Walking.{some_held}
use Rattle.fold_merge.proofs.folding.can_pack.Goals as goal

pub returns : goal.returns
returns c =
    can_be_packed c.args.level c.requires.level (held c.args.images.now) (some_held c.args.images.now c.requires.some) c.requires.follow c.hold_parts.ensures.parts c.hold_parts.ensures.hours
