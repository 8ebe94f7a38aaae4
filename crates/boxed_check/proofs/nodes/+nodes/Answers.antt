use Rattle.std.proofs.Common.{◌∙◌, ◌++◌, ◌∷◌, [], List, ap, sym, subst, arith, rules}
use Rattle.obf_wire.specs.Fields.{Window}
use Rattle.obf_wire.specs.Windows.{range_of}
use Rattle.boxed_exact.specs.Boxes.{box_of}
use Rattle.boxed_check.specs.Nodes.{IsGoodNode}
use Rattle.boxed_exact.specs.declared.nodes.LeafSeen.{LeafSeen}
use Rattle.boxed_check.proofs.NodeWalk.{node_of_leaf, node_of_nodes, nodes_on, nodes_end}
use Rattle.boxed_check.proofs.nodes.+nodes.Goals as goal
use Rattle.std.specs.Prelude.{IfSome, Option}
use Rattle.std.proofs.lemmas.Bool.{ltb-true}
use Rattle.boxed_exact.specs.declared.edges.Edges.{Edges}

pub see_below-loop-at-preserved : goal.see_below-loop-at-preserved
see_below-loop-at-preserved t c =
    let w : Window = record { bytes = c.args.window.bytes.now; place = c.loop-at.at; end = c.args.window.to } in
    let f = c.in-Some.field in
    let told : IsGoodNode c.args.below (range_of c.part-inner.result) c.in-Some-found.edges c.loop-at.leaves.items c.see_node.new.leaves.items =
    subst (λ (o : Option Edges). IfSome o (λ edges. IsGoodNode c.args.below (range_of c.part-inner.result) edges c.loop-at.leaves.items c.see_node.new.leaves.items)) c.in-Some-found.is c.in_ok-found.ensures in
    let good = subst (λ (w : Window). IsGoodNode c.args.below w c.in-Some-found.edges c.loop-at.leaves.items c.see_node.new.leaves.items) c.part-inner.ensures.range told in
    record {
      suffices = λ after total l. c.loop-at.invariant.suffices after total
          (nodes_on c.args.below w (box_of c.args.holder.now) f c.in-Some-found.edges c.loop-at.leaves.items c.see_node.new.leaves.items after c.loop-at.count total (record { ordered = c.loop-at.invariant.inside; within = c.args.window.within })
          c.in-Some.ensures good (search rules) l);
      inside = c.in-Some.ensures.inside.ends;
      few = omega (arith, c.if-count-ge-FAN.false);
    }

pub see_below-returns : goal.see_below-returns
see_below-returns t c some = record {
  total = c.loop-at.count;
  few = c.loop-at.invariant.few;
  nodes = c.loop-at.invariant.suffices c.loop-at.leaves.items c.loop-at.count
      (nodes_end c.args.below (record { bytes = c.args.window.bytes.now; place = c.loop-at.at; end = c.args.window.to }) (box_of c.args.holder.now) c.loop-at.leaves.items c.loop-at.count (record { ordered = c.loop-at.invariant.inside; within = c.args.window.within }) (omega arith) (ltb-true 0 c.loop-at.count some));
}

pub see_node-returns-then-all-front-eq-PLACE : goal.see_node-returns-then-all-front-eq-PLACE
see_node-returns-then-all-front-eq-PLACE t c =
    let w : Window = range_of c.args.window in
    let p = c.in-Some-expected in
    let before : List LeafSeen = c.args.leaves.now.items in
    let there = c.in_ok-push.ensures.items ∙ ap (λ (leaf : LeafSeen). before ++ leaf ∷ []) c.leaf_of.ensures in
    subst (IsGoodNode c.args.part w c.in-Some.front.edges before) (sym there)
    (node_of_leaf c.args.part w c.in-Some.front p.place before c.requires.part c.in-Some.ensures.front (record { ordered = c.in-Some.ensures.inside; within = c.args.window.within }) p.ensures (omega arith))

pub see_node-returns : goal.see_node-returns
see_node-returns t c =
    node_of_nodes c.args.part c.in-Some-part_below.below (range_of c.args.window) c.in-Some.front c.args.leaves.now.items c.see_below.new.leaves.items c.requires.part c.in-Some-part_below.ensures.part c.in-Some.ensures.front
    (let h = c.in_ok-good.ensures in search rules)
