use Rattle.file_grammar.proofs.FormBreaks.{form_breaks}
use Rattle.file_grammar.proofs.laws.breaks_have_their_causes.Goals as goal

pub returns : goal.returns
returns c = form_breaks
