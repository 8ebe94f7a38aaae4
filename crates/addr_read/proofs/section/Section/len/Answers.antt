use Rattle.std.proofs.Common.{◌∙◌}
use Rattle.obf_wire.specs.Windows.{range_of}
use Rattle.addr_read.proofs.SectionRead.{section_counted}
use Rattle.addr_read.proofs.section.Section.len.Goals as goal

pub returns : goal.returns
returns c =
    let s = c.self.inside in
    rw (← c.self.view_is) (c.records.ensures ∙ section_counted s.version (range_of s.window) s.kept.now c.self.invariant)
