use Rattle.std.proofs.Common.{ℕ, subst, arith}
use Rattle.std.specs.Prelude.{pos}
use Rattle.obf_wire.specs.Fields.{Window, part_of}
use Rattle.boxed_exact.specs.Boxes.{box_of}
use Rattle.road_section.specs.Stops.{NodesLeft, stop_read}
use Rattle.road_section.proofs.StopWalk.{nodes_end, nodes_on}
use Rattle.road_section.proofs.good_nodes.nodes_in.Goals as goal

pub loop-node-init : goal.loop-node-init
loop-node-init c = record {
  suffices = λ total l. subst (λ (at : ℕ). NodesLeft (part_of c.args.window.bytes.now at c.args.window.to) (box_of c.args.holder.now) (record { number = pos 0; location = (pos 0, pos 0) }) 0 total) c.from.ensures l;
  spot = record { east = omega arith; south = omega arith };
  inside = omega (arith, c.from.ensures, c.args.window.ordered);
  few = omega arith;
}

pub loop-node-preserved : goal.loop-node-preserved
loop-node-preserved c =
    let w : Window = part_of c.args.window.bytes.now c.loop-node.node.spot.next c.args.window.to in
    record {
      suffices = λ total l. c.loop-node.invariant.suffices total (nodes_on w (box_of c.args.holder.now) c.loop-node.node c.in-Some.next c.loop-node.count total (record { ordered = c.loop-node.invariant.inside; within = c.args.window.within }) (omega arith) c.in-Some.ensures.inside.1 c.in-Some.ensures.read l);
      spot = c.in-Some.ensures.spot;
      inside = c.in-Some.ensures.inside.1;
      few = omega (arith, c.loop-node.invariant.few, c.in-Some.ensures.inside.0);
    }

pub returns : goal.returns
returns c =
    c.loop-node.invariant.suffices c.loop-node.count
    (nodes_end (part_of c.args.window.bytes.now c.loop-node.node.spot.next c.args.window.to) (box_of c.args.holder.now) (stop_read c.loop-node.node) c.loop-node.count (record { ordered = c.loop-node.invariant.inside; within = c.args.window.within }) (omega arith))
