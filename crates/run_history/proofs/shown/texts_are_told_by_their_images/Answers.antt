use Rattle.std.proofs.Common.{map}
use Rattle.std.specs.Arc.{arc_value}
use Rattle.run_history.proofs.Told.{told}
use Rattle.run_history.proofs.shown.texts_are_told_by_their_images.Goals as goal

pub returns : goal.returns
returns c = told (map arc_value c.args.images.now) c.are_told.ensures
