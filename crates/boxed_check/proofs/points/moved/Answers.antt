use Rattle.std.proofs.Common.{subst, sym, arith}
use Rattle.obf_wire.specs.Fields.{Window}
use Rattle.boxed_exact.specs.Boxes.{box_of}
use Rattle.boxed_check.specs.Points.{IsMoved}
use Rattle.boxed_check.proofs.PointWalk.{moved_is}
use Rattle.boxed_check.proofs.points.moved.Goals as goal

pub returns-clause-moved : goal.returns-clause-moved
returns-clause-moved c =
    let w : Window = record { bytes = c.args.window.bytes.now; place = c.args.spot.now.next; end = c.args.window.to } in
    subst (IsMoved w (box_of c.args.holder.now) c.args.spot.now.x c.args.spot.now.y) (sym c.spot_at.ensures)
    (moved_is w (box_of c.args.holder.now) c.args.spot.now.x c.args.spot.now.y c.in-Some.a c.in-Some.between c.in-Some-number.b (record { x = c.in-Some-shifted.x; y = c.in-Some-shifted-2.y; next = c.in-Some-number.next }) c.in-Some.ensures.read c.in-Some-number.ensures.read (omega (arith, c.in-Some-number.ensures.inside.0, c.in-Some-number.ensures.inside.1)) c.in-Some-shifted.ensures c.in-Some-shifted-2.ensures)
