use Rattle.overlay_set.proofs.Fitting.{fits_later}
use Rattle.overlay_set.proofs.Planning.{plan_law, shrink_law}
use Rattle.overlay_set.proofs.plans_fit.Goals as goal

pub returns-clause-foldable : goal.returns-clause-foldable
returns-clause-foldable c = plan_law

pub returns-clause-shrinkable : goal.returns-clause-shrinkable
returns-clause-shrinkable c = shrink_law

pub returns-clause-later : goal.returns-clause-later
returns-clause-later c = fits_later
