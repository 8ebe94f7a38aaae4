use Rattle.overlay_set.proofs.Filling.{full_law}
use Rattle.overlay_set.proofs.Settling.{settled_law}
use Rattle.overlay_set.proofs.Shapes.{shaped_law}
use Rattle.overlay_set.proofs.folded_sets_are_settled.Goals as goal

pub returns-clause-settled : goal.returns-clause-settled
returns-clause-settled c = settled_law

pub returns-clause-full : goal.returns-clause-full
returns-clause-full c = full_law

pub returns-clause-shaped : goal.returns-clause-shaped
returns-clause-shaped c = shaped_law
