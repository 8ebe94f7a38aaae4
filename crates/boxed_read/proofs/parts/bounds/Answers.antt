use Rattle.std.specs.Prelude.{pos, ◌+ℤ◌}
use Rattle.obf_wire.specs.Fields.{Window}
use Rattle.boxed_read.proofs.PointWalk.{bounds_all, bounds_on}
use Rattle.boxed_exact.proofs.NumberWalk.{at_place}
use Rattle.boxed_read.proofs.PointWalk.{next_place, steps_behind}
use Rattle.boxed_read.proofs.parts.bounds.Goals as goal

pub loop-step-preserved : goal.loop-step-preserved
loop-step-preserved c = record {
  bounds = λ numbers e.
      bounds_on numbers c.loop-step.point c.point_after-point.result c.loop-step.bounds c.widened.result (record { bytes = c.args.window.bytes.now; place = c.loop-step.at; end = c.args.window.to }) c.in-Some.step
      (c.loop-step.invariant.bounds numbers e) c.in-Some.ensures.step c.point_after-point.ensures.x c.point_after-point.ensures.y c.widened.ensures;
  inside = c.in-Some.ensures.forward.1;
  sound =
      let w : Window = record { bytes = c.args.window.bytes.now; place = c.loop-step.at; end = c.args.window.to } in
      let step = c.in-Some.step in
      steps_behind c.point_after-point.result (pos c.loop-step.point.x +ℤ step.east) (pos c.loop-step.point.y +ℤ step.south) (at_place w step.next) c.point_after-point.ensures.x c.point_after-point.ensures.y
      (next_place c.loop-step.point w step c.loop-step.invariant.sound c.in-Some.ensures.step).1;
}

pub point_after-point-requires : goal.point_after-point-requires
point_after-point-requires c =
    (next_place c.loop-step.point (record { bytes = c.args.window.bytes.now; place = c.loop-step.at; end = c.args.window.to }) c.in-Some.step c.loop-step.invariant.sound c.in-Some.ensures.step).0

pub returns : goal.returns
returns c numbers e =
    bounds_all numbers c.loop-step.point c.loop-step.bounds (record { bytes = c.args.window.bytes.now; place = c.loop-step.at; end = c.args.window.to }) (c.loop-step.invariant.bounds numbers e) c.in_default.ensures.step
