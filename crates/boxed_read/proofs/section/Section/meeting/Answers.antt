use Rattle.obf_wire.specs.Windows.{range_of}
use Rattle.boxed_read.proofs.MeetingWalk.{coming_met, met_hold}
use Rattle.boxed_read.proofs.section.Section.meeting.Goals as goal

pub new-requires : goal.new-requires
new-requires g c =
    let s = c.self.inside in
    met_hold g.C.CheckClass.class g.C.CheckClass.boxing (range_of s.window) s.kept.now c.args.rect c.self.invariant

pub returns : goal.returns
returns g c =
    let s = c.self.inside in
    rw (← c.self.view_is) (coming_met g.C.CheckClass.class (g.C.ReadClass.reads s.group.now) s.window.bytes.now s.kept.now c.args.rect c.new.result c.new.ensures)
