use Rattle.std.proofs.Common.{ℕ, List, subst}
use Rattle.file_grammar.specs.Files.{file_break, whole}
use Rattle.file_grammar.specs.Readings.{IsInMemory}
use Rattle.obf_wire.specs.declared.file.FileError.{FileError}
use Rattle.boxed_exact.specs.Breaks.{Breaks}
use Rattle.packed_image.proofs.PackedImages.{never_broken}
use Rattle.packed_image.proofs.packing.read_packed.Goals as goal

pub unreachable-requires : goal.unreachable-requires
unreachable-requires c =
    never_broken c.args.bytes.items c.in-Err-Broken.field-0-0 (subst (λ (b : List ℕ). IsInMemory (whole b)) c.deref.ensures.value c.in_memory.ensures) c.requires
    (subst (λ (e : FileError). Breaks e (file_break c.args.bytes.items)) c.in-Err-Broken.field-0-is c.in-Err-Broken.ensures.broken)
