use Rattle.std.proofs.Common.{◌≡◌, ℕ, List, Option, subst, rules}
use Rattle.std.specs.Prelude.{IfSome}
use Rattle.obf_wire.specs.Fields.{Window, part_of}
use Rattle.obf_wire.specs.KnownKeys.{StandsFirst}
use Rattle.obf_wire.specs.Windows.{range_of}
use Rattle.boxed_exact.specs.declared.fields.Payload.{Payload}
use Rattle.boxed_exact.specs.declared.nodes.LeafSeen.{LeafSeen}
use Rattle.boxed_exact.specs.Sides.{beside}
use Rattle.boxed_check.specs.Leaves.{AreBoxes, boxes_of}
use Rattle.boxed_check.specs.declared.kept.Kept.{Kept}
use Rattle.boxed_check.specs.Sections.{AreBlocksSeen, IsGoodTree}
use Rattle.boxed_check.proofs.SectionWalk.{section_is}
use Rattle.boxed_check.proofs.section.see_section.Goals as goal

pub returns : goal.returns
returns g c =
    let m = g.C.CheckClass in
    let w : Window = range_of c.args.window in
    let own : Window = record { bytes = c.args.window.bytes.now; place = c.in-Some.tree.from; end = c.in-Some.tree.to } in
    let behind : Window = record { bytes = c.args.window.bytes.now; place = c.in-Some.tree.to; end = c.args.window.to } in
    let side = beside c.args.around.now in
    let leaves : List LeafSeen = c.see_tree.new.leaves.items in
    let blocks : List Payload = c.blocks_in.new.blocks.items in
    let kept : Kept = record { leaves = c.see_tree.new.leaves; tree = c.in_ok-over.over; blocks = c.blocks_in.new.blocks; records = c.in-Some-found.records } in
    let seen : IsGoodTree (range_of c.part.result) c.new-leaves.result.items leaves = (let h = c.in_ok-good.ensures in search rules) in
    let tree = subst (λ (v : Window). IsGoodTree v c.new-leaves.result.items leaves) c.part.ensures.range seen in
    let from_none = subst (λ (ls : List LeafSeen). IsGoodTree own ls leaves) c.new-leaves.ensures.items tree in
    let told : AreBlocksSeen m.class m.boxing side behind c.as_slice.result.now c.new-blocks.result.items blocks c.in-Some-found.records =
    subst (λ (o : Option ℕ). IfSome o (AreBlocksSeen m.class m.boxing side behind c.as_slice.result.now c.new-blocks.result.items blocks)) c.in-Some-found.is c.in_ok-found.ensures in
    let named = subst (λ (ls : List LeafSeen). AreBlocksSeen m.class m.boxing side behind ls c.new-blocks.result.items blocks c.in-Some-found.records) c.as_slice.ensures.value told in
    let from_empty = subst (λ (ps : List Payload). AreBlocksSeen m.class m.boxing side behind leaves ps blocks c.in-Some-found.records) c.new-blocks.ensures.items named in
    let first = subst (λ (at : ℕ). StandsFirst (part_of c.args.window.bytes.now at c.args.window.to) 14 c.in-Some.tree) c.from.ensures c.in-Some.ensures in
    let over = subst (λ (ls : List LeafSeen). AreBoxes ls → c.in_ok-over.over ≡ boxes_of ls) c.deref.ensures.value c.in_ok-over.ensures in
    section_is m.class m.boxing side w c.in-Some.tree kept (record { ordered = c.args.window.ordered; within = c.args.window.within }) first from_none from_empty over
