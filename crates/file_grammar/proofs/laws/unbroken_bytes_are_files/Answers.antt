use Rattle.file_grammar.proofs.FileLaws.{file_law, one_parts_law, parts_law}
use Rattle.file_grammar.proofs.laws.unbroken_bytes_are_files.Goals as goal

pub returns : goal.returns
returns c = record { unbroken = file_law; once = one_parts_law; parts = parts_law }
