use Rattle.std.proofs.Common.{ℕ, List, subst}
use Rattle.file_grammar.specs.Files.{whole}
use Rattle.file_grammar.specs.Readings.{IsInMemory}
use Rattle.published_set.proofs.Images.{its_file}
use Rattle.published_set.proofs.image.images_stand_for_their_files.Goals as goal

pub returns : goal.returns
returns c = its_file c.args.image.now c.bytes.ensures.file (subst (λ (bytes : List ℕ). IsInMemory (whole bytes)) c.bytes.ensures.bytes c.in_memory.ensures)
