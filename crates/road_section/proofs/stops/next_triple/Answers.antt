use Rattle.std.proofs.Common.{refl}
use Rattle.obf_wire.specs.Fields.{Window, part_of}
use Rattle.road_section.proofs.StopWalk.{few_behind, triple_on}
use Rattle.road_section.proofs.stops.next_triple.Goals as goal

pub returns-in_default-next_step-clause-triple : goal.returns-in_default-next_step-clause-triple
returns-in_default-next_step-clause-triple c numbers e =
    let w : Window = part_of c.args.window.bytes.now c.args.at c.args.window.to in
    let v : Window = part_of c.args.window.bytes.now c.in-Some.between c.args.window.to in
    few_behind w v numbers c.in-Some.number (c.in-Some.ensures.number numbers e) refl c.in_default-next_step.ensures.step

pub returns-clause-triple : goal.returns-clause-triple
returns-clause-triple c numbers e =
    let w : Window = part_of c.args.window.bytes.now c.args.at c.args.window.to in
    let v : Window = part_of c.args.window.bytes.now c.in-Some.between c.args.window.to in
    triple_on w v numbers c.in-Some.number c.in-Some-next_step.step c.triple_by.result c.triple_by.ensures (c.in-Some.ensures.number numbers e) refl c.in-Some-next_step.ensures.step
