use Rattle.file_grammar.proofs.PartTables.{tables_stated}
use Rattle.file_grammar.proofs.tables.tables_are_stated.Goals as goal

pub returns : goal.returns
returns c = tables_stated
