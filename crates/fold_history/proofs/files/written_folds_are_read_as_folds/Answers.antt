use Rattle.std.proofs.Common.{map}
use Rattle.std.specs.Arc.{arc_value}
use Rattle.fold_history.proofs.Reading.{read_as_fold}
use Rattle.fold_history.proofs.files.written_folds_are_read_as_folds.Goals as goal

pub returns : goal.returns
returns c =
    read_as_fold (map arc_value c.args.images.now) c.args.image.now c.all_hold.ensures c.is_read.ensures.0 c.images_are_files.ensures c.is_read.ensures.1 c.are_civil.ensures
