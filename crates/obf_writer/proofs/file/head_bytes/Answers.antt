use Rattle.file_grammar.proofs.HeadsByNumbers.{head_law}
use Rattle.obf_writer.proofs.file.head_bytes.Goals as goal

pub returns-clause-good : goal.returns-clause-good
returns-clause-good c = head_law c.args.head.now c.hour_number.ensures.civil c.hour_number-2.ensures.civil
