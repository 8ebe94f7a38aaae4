use Rattle.query_merge.proofs.Gathering.{history_answer_law}
use Rattle.query_merge.proofs.laws.histories_answer_as_the_map_made_anew.Goals as goal

pub returns : goal.returns
returns c = history_answer_law
