use Rattle.obf_wire.specs.Windows.{range_of}
use Rattle.boxed_read.proofs.MeetingWalk.{met_hold}
use Rattle.boxed_read.proofs.Pruning.{hits_met}
use Rattle.boxed_read.proofs.section.Section.hits.Goals as goal

pub new-met-requires : goal.new-met-requires
new-met-requires g c =
    let s = c.self.inside in
    met_hold g.C.CheckClass.class g.C.CheckClass.boxing (range_of s.window) s.kept.now c.rect.result c.self.invariant

pub returns : goal.returns
returns g c =
    let s = c.self.inside in
    rw (← c.self.view_is)
    (hits_met g.C.CheckClass.class g.C.CheckClass.boxing g.C.ReadClass.reads g.C.ReadClass.id_of g.met.C.ReadClass.reading s.group.now (g.F.SpatialFilter.passing c.args.filter) (g.F.SpatialFilter.rect_of c.args.filter) (g.met.F.SpatialFilter.near c.args.filter)
    (range_of s.window) s.kept.now c.self.invariant c.rect.result c.new-met.result c.new.result c.rect.ensures c.new-met.ensures c.new.ensures)
