use Rattle.obf_wire.specs.Windows.{range_of}
use Rattle.boxed_read.proofs.SectionRead.{section_boxed}
use Rattle.boxed_read.proofs.section.Section.of_group.Goals as goal

pub returns : goal.returns
returns g c fields e =
    section_boxed g.C.CheckClass.class g.C.CheckClass.boxing g.C.ReadClass.reads g.C.ReadClass.id_of g.met.C.ReadClass.reading c.args.group.now (range_of c.args.window) c.args.kept.now fields c.requires e
