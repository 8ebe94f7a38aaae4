use Rattle.file_grammar.specs.Messages.{has_number}
use Rattle.boxed_exact.proofs.fields.next_number.Goals as goal

pub returns-in-Some-clause-number : goal.returns-in-Some-clause-number
returns-in-Some-clause-number c at key value rest e = let n = c.in-Some.ensures.fields (has_number at key value rest) e in (n.0, n.2, n.3)
