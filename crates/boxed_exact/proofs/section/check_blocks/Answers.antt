use Rattle.std.proofs.Common.{◌≡◌, ◌∙◌, ℕ, List, Some, Ok, drop, ap, sym, subst}
use Rattle.obf_wire.specs.Fields.{Window, part_of}
use Rattle.obf_wire.specs.Windows.{range_of}
use Rattle.file_grammar.specs.declared.parts.Part.TheVariants.{Block as BlockPart}
use Rattle.file_grammar.specs.Messages.{Fields}
use Rattle.file_grammar.specs.Readings.{message_at}
use Rattle.boxed_exact.specs.declared.nodes.LeafSeen.{LeafSeen}
use Rattle.boxed_exact.specs.Pairs.{IsPairChecked, place_or}
use Rattle.boxed_exact.specs.Sides.{beside}
use Rattle.boxed_exact.proofs.BlockWalk.{BlocksLeft, block_on, blocks_all, blocks_begin}
use Rattle.boxed_exact.proofs.section.check_blocks.Goals as goal

pub loop-field-init : goal.loop-field-init
loop-field-init g c = let m = g.C.CheckClass in record {
  blocks = λ fields e are. blocks_begin m.class m.boxing (beside c.args.around.now) fields c.args.first.now c.args.leaves.now c.args.walk.now e are;
  part = c.requires.part;
  window = c.requires.window;
  same = c.requires.same;
}

pub loop-field-preserved : goal.loop-field-preserved
loop-field-preserved g c =
    let m = g.C.CheckClass in
    let f = c.in-Some.field in
    let around = beside c.args.around.now in
    let placed = subst (λ (place : ℕ). (fields : Fields) → message_at (BlockPart m.class) (range_of c.new-block.result) ≡ Ok fields
    → IsPairChecked m.boxing around f.at place c.loop-field.rest.now fields c.loop-field.first c.check_paired.new.first) c.first_of-place.ensures c.check_paired.ensures in
    let pair = subst (λ (w : Window). (fields : Fields) → message_at (BlockPart m.class) w ≡ Ok fields
    → IsPairChecked m.boxing around f.at (place_or c.loop-field.start f.at) c.loop-field.rest.now fields c.loop-field.first c.check_paired.new.first) (c.new-block.ensures.range ∙ ap (λ (bytes : List ℕ). part_of bytes f.from f.to) (sym c.loop-field.invariant.same)) placed in
    record {
      blocks = λ fields e are.
          let r = block_on m.class m.boxing around fields c.args.first.now c.loop-field.first c.check_paired.new.first c.args.leaves.now c.loop-field.rest.now c.loop-field.start c.loop-field.walk c.next.new.self f
          (c.loop-field.invariant.blocks fields e are) c.in-Some.ensures.fields c.loop-field.invariant.part pair in
          let s = subst (λ (place : ℕ). BlocksLeft m.class m.boxing around fields c.args.first.now c.check_paired.new.first c.args.leaves.now (drop 1 c.loop-field.rest.now) (Some place) c.next.new.self) (sym c.first_of-place.ensures) r in
          subst (λ (leaves : List LeafSeen). BlocksLeft m.class m.boxing around fields c.args.first.now c.check_paired.new.first c.args.leaves.now leaves (Some c.first_of-place.result) c.next.new.self) (sym c.behind_first-rest.ensures) s;
      part = c.in-Some.ensures.part ∙ c.loop-field.invariant.part;
      window = c.in-Some.ensures.window;
      same = c.in-Some.ensures.same.0 ∙ c.loop-field.invariant.same;
    }

pub returns : goal.returns
returns g c fields e are =
    let m = g.C.CheckClass in
    blocks_all m.class m.boxing (beside c.args.around.now) fields c.args.first.now c.loop-field.first c.check_unnamed.new.first c.args.leaves.now c.loop-field.rest.now c.loop-field.start c.loop-field.walk
    (c.loop-field.invariant.blocks fields e are) c.in_default.ensures.fields c.check_unnamed.ensures
