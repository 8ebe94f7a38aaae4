use Rattle.fold_worker.proofs.Working.{reported_rise}
use Rattle.fold_worker.proofs.laws.reports_tell_the_rise.Goals as goal

pub returns : goal.returns
returns c = reported_rise
