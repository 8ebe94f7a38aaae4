use Rattle.std.proofs.Common.{◌≡◌, ◌∙◌, ℕ, List, Ok, Result, ap, sym, subst, arith}
use Rattle.obf_wire.specs.Fields.{Window, part_of}
use Rattle.obf_wire.specs.Windows.{range_of}
use Rattle.obf_wire.specs.declared.file.FileBreak.{FileBreak}
use Rattle.file_grammar.specs.Messages.{Fields}
use Rattle.file_grammar.specs.Readings.{message_at}
use Rattle.file_grammar.specs.Walks.{Standing, left_in}
use Rattle.boxed_exact.specs.Nodes.{AreNodesChecked}
use Rattle.boxed_exact.proofs.NodeShape.{tree_shape}
use Rattle.boxed_exact.proofs.NodeWalk.{BelowLeft, leaf_on, node_asked, node_on, none_on}
use Rattle.boxed_exact.proofs.nodes.+nodes.Goals as goal

abbrev stands : Fields → Result Fields FileBreak
stands fields = Ok fields

pub check_below-loop-field-preserved-in-Continue-1 : goal.check_below-loop-field-preserved-in-Continue-1
check_below-loop-field-preserved-in-Continue-1 t c = record {
  nodes = λ fields e are.
      let l = leaf_on c.args.at c.args.edges.now fields c.args.first.now c.loop-field.first c.args.leaves.now.items c.loop-field.leaves.items c.loop-field.seen c.loop-field.walk c.next.new.self c.in-Some.field
      (c.loop-field.invariant.nodes fields e are) c.in-Some.ensures.fields c.if-field-eq-PLACE.true in
      subst (λ (items : List _). BelowLeft c.args.at c.args.edges.now fields c.args.first.now c.loop-field.first c.args.leaves.now.items items c.loop-field.seen c.next.new.self) (sym c.in_ok-push.ensures.items) l;
  part = c.in-Some.ensures.part ∙ c.loop-field.invariant.part;
  window = c.in-Some.ensures.window;
  same = c.in-Some.ensures.same.0 ∙ c.loop-field.invariant.same;
  few = omega (arith, c.loop-field.invariant.few, c.in-Some.ensures.inside.0.place, c.in-Some.ensures.inside.0.starts, c.in-Some.ensures.inside.0.ordered, c.in-Some.ensures.inside.1);
}

pub check_below-loop-field-preserved-in-Some-part_below : goal.check_below-loop-field-preserved-in-Some-part_below
check_below-loop-field-preserved-in-Some-part_below t c =
    let f = c.in-Some.field in
    let node = subst (λ (w : Window). (inner : Fields) → message_at c.in-Some-part_below.below w ≡ Ok inner
    → AreNodesChecked inner c.loop-field.first c.check_nodes.new.first c.loop-field.leaves.items c.check_nodes.new.leaves.items c.in_ok-found.found) (c.new-inner.ensures.range ∙ ap (λ (bytes : List ℕ). part_of bytes f.from f.to) (sym c.loop-field.invariant.same)) c.in_ok-found.ensures in
    record {
      nodes = λ fields e are.
          node_on c.args.at c.args.edges.now fields c.args.first.now c.loop-field.first c.check_nodes.new.first c.args.leaves.now.items c.loop-field.leaves.items c.check_nodes.new.leaves.items c.loop-field.seen c.with_node-seen.result
          c.loop-field.walk c.next.new.self f c.args.part c.in-Some-part_below.below c.in_ok-found.found (c.loop-field.invariant.nodes fields e are) c.in-Some.ensures.fields c.if-field-eq-PLACE.false c.loop-field.invariant.part
          c.in-Some-part_below.ensures.below node c.with_node-seen.ensures.none c.with_node-seen.ensures.some;
      part = c.in-Some.ensures.part ∙ c.loop-field.invariant.part;
      window = c.in-Some.ensures.window;
      same = c.in-Some.ensures.same.0 ∙ c.loop-field.invariant.same;
      few = omega (arith, c.with_node-seen.ensures.few, c.loop-field.invariant.few, c.in-Some.ensures.inside.0.place, c.in-Some.ensures.inside.0.starts, c.in-Some.ensures.inside.0.ordered, c.in-Some.ensures.inside.1);
    }

pub check_below-loop-field-preserved : goal.check_below-loop-field-preserved
check_below-loop-field-preserved t c = record {
  nodes = λ fields e are.
      absurd (none_on c.args.at c.args.edges.now fields c.args.first.now c.loop-field.first c.args.leaves.now.items c.loop-field.leaves.items c.loop-field.seen c.loop-field.walk c.next.new.self c.in-Some.field c.args.part
      (c.loop-field.invariant.nodes fields e are) c.in-Some.ensures.fields c.if-field-eq-PLACE.false c.loop-field.invariant.part c.in_default-part_below.ensures.below);
  part = c.in-Some.ensures.part ∙ c.loop-field.invariant.part;
  window = c.in-Some.ensures.window;
  same = c.in-Some.ensures.same.0 ∙ c.loop-field.invariant.same;
  few = omega (arith, c.loop-field.invariant.few, c.in-Some.ensures.inside.0.place, c.in-Some.ensures.inside.0.starts, c.in-Some.ensures.inside.0.ordered, c.in-Some.ensures.inside.1);
}

pub check_nodes-returns : goal.check_nodes-returns
check_nodes-returns t c fields e =
    let shape = tree_shape c.args.part c.requires.part (range_of c.args.window) fields e in
    let begins : left_in c.new-walk.result ≡ stands fields = subst (λ (w : Standing). left_in w ≡ stands fields) (sym c.new-walk.ensures) e in
    node_asked fields c.in-Some.field (c.next_number-top.result.at, c.next_number-top.result.value) (c.next_number-right.result.at, c.next_number-right.result.value) (c.next_number-bottom.result.at, c.next_number-bottom.result.value)
    c.next.new.self c.next_number-top.new.walk c.next_number-right.new.walk c.next_number-bottom.new.walk c.new-walk.result c.args.first.now c.check_below.new.first c.check_node.new.first c.args.leaves.now.items c.check_below.new.leaves.items c.in_ok-seen.seen
    shape (c.in-Some.ensures.fields fields begins) c.next_number-top.ensures.number c.next_number-right.ensures.number c.next_number-bottom.ensures.number c.in_ok-seen.ensures c.check_node.ensures
