use Rattle.obf_wire.specs.Windows.{range_of}
use Rattle.std.proofs.Common.{subst, sym}
use Rattle.boxed_read.specs.Sound.{HoldBlocks}
use Rattle.boxed_read.proofs.SectionRead.{checked_blocks}
use Rattle.boxed_read.proofs.section.Section.all.Goals as goal

pub new-requires : goal.new-requires
new-requires g c =
    let s = c.self.inside in
    subst (HoldBlocks g.C.CheckClass.class g.C.CheckClass.boxing s.window.bytes.now) (sym c.blocks-2.ensures) (checked_blocks g.C.CheckClass.class g.C.CheckClass.boxing (range_of s.window) s.kept.now c.self.invariant)
