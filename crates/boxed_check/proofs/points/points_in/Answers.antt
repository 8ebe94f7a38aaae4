use Rattle.std.proofs.Common.{ℕ, subst, arith}
use Rattle.std.specs.Prelude.{pos}
use Rattle.obf_wire.specs.Fields.{Window, part_of}
use Rattle.boxed_check.specs.Points.{PointsLeft}
use Rattle.boxed_exact.specs.Boxes.{box_of}
use Rattle.boxed_check.proofs.PointWalk.{points_on, points_end}
use Rattle.boxed_check.proofs.points.points_in.Goals as goal

pub loop-spot-init : goal.loop-spot-init
loop-spot-init c = record {
  suffices = λ total l. subst (λ (at : ℕ). PointsLeft (part_of c.args.window.bytes.now at c.args.window.to) (box_of c.args.holder.now) (pos 0, pos 0) 0 total) c.from.ensures l;
  spot = record { east = omega arith; south = omega arith };
  inside = omega (arith, c.from.ensures, c.args.window.ordered);
  few = omega arith;
}

pub loop-spot-preserved : goal.loop-spot-preserved
loop-spot-preserved c =
    let w : Window = record { bytes = c.args.window.bytes.now; place = c.loop-spot.spot.next; end = c.args.window.to } in
    record {
      suffices = λ total l. c.loop-spot.invariant.suffices total (points_on w (box_of c.args.holder.now) c.loop-spot.spot.x c.loop-spot.spot.y c.in-Some.next c.loop-spot.count total (record { ordered = c.loop-spot.invariant.inside; within = c.args.window.within }) (omega arith) c.in-Some.ensures.inside.1 c.in-Some.ensures.moved l);
      spot = c.in-Some.ensures.spot;
      inside = c.in-Some.ensures.inside.1;
      few = omega (arith, c.loop-spot.invariant.few, c.in-Some.ensures.inside.0);
    }

pub returns : goal.returns
returns c =
    c.loop-spot.invariant.suffices c.loop-spot.count
    (points_end (record { bytes = c.args.window.bytes.now; place = c.loop-spot.spot.next; end = c.args.window.to }) (box_of c.args.holder.now) (pos c.loop-spot.spot.x, pos c.loop-spot.spot.y) c.loop-spot.count (record { ordered = c.loop-spot.invariant.inside; within = c.args.window.within }) (omega arith))
