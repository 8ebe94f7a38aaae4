use Rattle.std.proofs.Common.{None}
use Rattle.file_grammar.proofs.ReadIsSpelled.{read_is_spelled}
use Rattle.file_grammar.proofs.SpelledIsRead.{spelled_is_read}
use Rattle.file_grammar.proofs.laws.readings_are_messages.Goals as goal

pub returns : goal.returns
returns c part w fields memory = (λ e. let s = read_is_spelled part None w fields memory e in record { form = s.form; spelled = s.spelled }, λ m. spelled_is_read fields part None w memory m.form m.spelled)
