use Rattle.fold_merge.proofs.Cutting.{cuts_law, fold_law, one_law}
use Rattle.fold_merge.proofs.laws.cuts_answer_alike.Goals as goal

pub returns-clause-one : goal.returns-clause-one
returns-clause-one c = one_law

pub returns-clause-fold : goal.returns-clause-fold
returns-clause-fold c = fold_law

pub returns-clause-cuts : goal.returns-clause-cuts
returns-clause-cuts c = cuts_law
