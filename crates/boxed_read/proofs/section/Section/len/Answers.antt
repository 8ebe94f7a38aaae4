use Rattle.obf_wire.specs.Windows.{range_of}
use Rattle.std.proofs.Common.{◌∙◌}
use Rattle.boxed_read.proofs.SectionRead.{section_counted}
use Rattle.boxed_read.proofs.section.Section.len.Goals as goal

pub returns : goal.returns
returns g c =
    let s = c.self.inside in
    rw (← c.self.view_is) (c.records.ensures ∙ section_counted g.C.CheckClass.class g.C.CheckClass.boxing g.C.ReadClass.reads g.C.ReadClass.id_of g.met.C.ReadClass.reading s.group.now (range_of s.window) s.kept.now c.self.invariant)
