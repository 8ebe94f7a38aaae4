use Rattle.std.proofs.Common.{sym, subst}
use Rattle.std.specs.Prelude.{IsUtf8}
use Rattle.boxed_laws.specs.Classes.{PassUtf8}
use Rattle.boxed_laws.proofs.RecordParts.{name_utf8}
use Rattle.boxed_read.proofs.parts.text.Goals as goal

pub utf8-requires : goal.utf8-requires
utf8-requires c =
    let a = c.requires in
    subst IsUtf8 (sym (c.text_of.ensures a.named a.read)) (name_utf8 _ c.args.number (subst PassUtf8 a.are a.utf8))
