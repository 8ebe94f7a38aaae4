use Rattle.std.proofs.Common.{◌+◌, ◌∷◌, ◌++◌, ◌∙◌, [], List, ap, sym, subst, arith}
use Rattle.obf_wire.specs.Fields.{Window}
use Rattle.boxed_exact.specs.declared.fields.Payload.{Payload}
use Rattle.boxed_exact.specs.declared.nodes.LeafSeen.{LeafSeen}
use Rattle.boxed_exact.specs.Boxes.{box_of}
use Rattle.boxed_exact.specs.Sides.{beside}
use Rattle.boxed_check.specs.Blocks.{IsGoodBlock}
use Rattle.boxed_check.specs.Sections.{BlocksLeft}
use Rattle.boxed_check.proofs.SectionWalk.{blocks_end, blocks_on}
use Rattle.boxed_check.proofs.section.blocks_in.Goals as goal

pub loop-leaf-preserved : goal.loop-leaf-preserved
loop-leaf-preserved g c =
    let m = g.C.CheckClass in
    let w : Window = record { bytes = c.args.window.bytes.now; place = c.loop-leaf.at; end = c.args.window.to } in
    let behind : Window = record { bytes = c.args.window.bytes.now; place = c.in-Some-expected_wide.field.to; end = c.args.window.to } in
    let side = beside c.args.around.now in
    let f = c.in-Some-expected_wide in
    let blocks : List Payload = c.loop-leaf.blocks.items in
    let added = c.in_ok-push.ensures.items ∙ ap (λ (p : Payload). blocks ++ p ∷ []) c.span_of.ensures in
    let good = subst (λ (v : Window). IsGoodBlock m.class m.boxing side (box_of c.in-Some.leaf.edges) v f.field.at c.in-Some-see_block.records) c.part-payload.ensures.range c.in-Some-see_block.ensures in
    record {
      suffices = λ after total l. c.loop-leaf.invariant.suffices after total
          (subst (λ (ls : List LeafSeen). BlocksLeft m.class m.boxing side w c.args.from ls blocks after c.loop-leaf.count total) (sym c.in-Some.ensures)
          (blocks_on m.class m.boxing side w c.args.from c.in-Some.leaf c.in-Some.after.now f.field blocks after c.in-Some-see_block.records c.loop-leaf.count total (record { ordered = c.loop-leaf.invariant.inside; within = c.args.window.within })
          f.ensures f.ensures.at_is (omega (arith, f.ensures.at_is, c.loop-leaf.invariant.behind)) good
          (subst (λ (ps : List Payload). BlocksLeft m.class m.boxing side behind c.args.from c.in-Some.after.now ps after (c.loop-leaf.count + c.in-Some-see_block.records) total) added l)));
      inside = f.ensures.inside.ends;
      behind = omega (arith, c.loop-leaf.invariant.behind, f.ensures.inside.starts, f.ensures.inside.ordered);
    }

pub returns : goal.returns
returns g c =
    let m = g.C.CheckClass in
    let w : Window = record { bytes = c.args.window.bytes.now; place = c.loop-leaf.at; end = c.args.window.to } in
    c.loop-leaf.invariant.suffices c.loop-leaf.blocks.items c.loop-leaf.count
    (subst (λ (ls : List LeafSeen). BlocksLeft m.class m.boxing (beside c.args.around.now) w c.args.from ls c.loop-leaf.blocks.items c.loop-leaf.blocks.items c.loop-leaf.count c.loop-leaf.count) (sym c.in_default.ensures)
    (blocks_end m.class m.boxing (beside c.args.around.now) w c.args.from c.loop-leaf.count c.loop-leaf.blocks.items (record { ordered = c.loop-leaf.invariant.inside; within = c.args.window.within }) (omega arith)))
