use Rattle.fold_sets.proofs.Finishing.{accepted_law, finished_law}
use Rattle.fold_sets.proofs.laws.folds_finish_plans.Goals as goal

pub returns-clause-accepted : goal.returns-clause-accepted
returns-clause-accepted c = accepted_law

pub returns-clause-finished : goal.returns-clause-finished
returns-clause-finished c = finished_law
