use Rattle.query_merge.proofs.Gathering.{gathered_law}
use Rattle.query_merge.proofs.laws.hits_are_sorted_once.Goals as goal

pub returns : goal.returns
returns c = gathered_law
