use Rattle.file_grammar.specs.Messages.{ends, has_bytes}
use Rattle.addr_read.proofs.fields.last_text.Goals as goal

pub returns-in-Some-clause-none : goal.returns-in-Some-clause-none
returns-in-Some-clause-none c e = absurd (c.in-Some.ensures.fields ends e)

pub returns-in-Some-clause-text : goal.returns-in-Some-clause-text
returns-in-Some-clause-text c at key text rest e = (c.in-Some.ensures.fields (has_bytes at key text rest) e).2
