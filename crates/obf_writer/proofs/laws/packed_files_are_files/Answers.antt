use Rattle.obf_writer.proofs.PackedFiles.{packed_file_law}
use Rattle.obf_writer.proofs.laws.packed_files_are_files.Goals as goal

pub returns : goal.returns
returns c = packed_file_law
