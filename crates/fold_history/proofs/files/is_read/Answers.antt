use Rattle.std.proofs.Common.{ℕ, List, subst}
use Rattle.file_grammar.specs.Files.{whole}
use Rattle.file_grammar.specs.Readings.{IsInMemory}
use Rattle.fold_history.proofs.files.is_read.Goals as goal

pub returns : goal.returns
returns c = (c.bytes.ensures.file, subst (λ (b : List ℕ). IsInMemory (whole b)) c.bytes.ensures.bytes c.in_memory.ensures)
