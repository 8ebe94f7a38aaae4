use Rattle.file_grammar.proofs.Earlier.{one_first_break_law}
use Rattle.file_grammar.proofs.first.one_first_break.Goals as goal

pub returns : goal.returns
returns c = one_first_break_law
