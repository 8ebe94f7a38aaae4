use Rattle.std.proofs.Common.{ℕ, List, subst}
use Rattle.file_grammar.specs.Files.{whole}
use Rattle.file_grammar.specs.Readings.{IsInMemory}
use Rattle.obf_reader.specs.Images.{IsImageFile, Seen}
use Rattle.obf_reader.proofs.Images.{file_of}
use Rattle.obf_reader.proofs.image.images_are_files.Goals as goal

pub returns : goal.returns
returns c =
    let image : Seen = record {
      bytes = c.image.inside.bytes.items;
      version = c.image.inside.version;
      head = c.image.inside.head;
      rules = c.image.inside.rules;
      marks = c.image.inside.marks.items;
      sections = c.image.inside.sections;
      kept = c.image.inside.kept;
      records = c.image.inside.kept.records;
    } in
    let memory = subst (λ (bytes : List ℕ). IsInMemory (whole bytes)) c.as_slice.ensures.value c.in_memory.ensures in
    subst IsImageFile c.image.view_is (file_of image c.image.invariant memory)
