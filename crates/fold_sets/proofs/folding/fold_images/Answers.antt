use Rattle.std.proofs.Common.{map, ap}
use Rattle.std.specs.Arc.{arc_value}
use Rattle.fold_sets.proofs.folding.fold_images.Goals as goal

pub fold-requires-clause-some : goal.fold-requires-clause-some
fold-requires-clause-some c = λ none. c.requires.some (ap (map arc_value) none)
