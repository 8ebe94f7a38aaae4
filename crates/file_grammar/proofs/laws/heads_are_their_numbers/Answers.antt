use Rattle.file_grammar.proofs.HeadsByNumbers.{head_law}
use Rattle.file_grammar.proofs.HourNumbers.{hour_law}
use Rattle.file_grammar.proofs.laws.heads_are_their_numbers.Goals as goal

pub returns : goal.returns
returns c = record { heads = head_law; hours = hour_law }
