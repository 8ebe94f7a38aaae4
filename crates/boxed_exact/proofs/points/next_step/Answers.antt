use Rattle.std.proofs.Common.{refl}
use Rattle.obf_wire.specs.Fields.{Window}
use Rattle.boxed_exact.proofs.NumberWalk.{step_next, few_behind}
use Rattle.boxed_exact.proofs.points.next_step.Goals as goal

pub returns-in_default-next_value-clause-step : goal.returns-in_default-next_value-clause-step
returns-in_default-next_value-clause-step c numbers e =
    let w : Window = record { bytes = c.args.window.bytes.now; place = c.args.at; end = c.args.window.to } in
    let v : Window = record { bytes = c.args.window.bytes.now; place = c.in-Some.between; end = c.args.window.to } in
    few_behind w v numbers c.in-Some.x (c.in-Some.ensures.number numbers e) refl c.in_default-next_value.ensures.number

pub returns-clause-step : goal.returns-clause-step
returns-clause-step c numbers e =
    let w : Window = record { bytes = c.args.window.bytes.now; place = c.args.at; end = c.args.window.to } in
    let v : Window = record { bytes = c.args.window.bytes.now; place = c.in-Some.between; end = c.args.window.to } in
    step_next w v numbers c.in-Some.x c.in-Some-next_value.y c.in-Some-next_value.next c.step_by.result c.step_by.ensures.east c.step_by.ensures.south c.step_by.ensures.next
    (c.in-Some.ensures.number numbers e) refl c.in-Some-next_value.ensures.number
