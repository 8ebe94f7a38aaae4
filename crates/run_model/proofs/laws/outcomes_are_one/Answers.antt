use Rattle.run_model.proofs.OneOutcome.{one_outcome}
use Rattle.run_model.proofs.laws.outcomes_are_one.Goals as goal

pub returns : goal.returns
returns c = one_outcome
