use Rattle.std.proofs.Common.{◌≡◌, Some, Ok, ◌≤◌, ◌∷◌, ◌++◌, ◌∙◌, [], ℕ, List, length, ap, subst, arith}
use Rattle.obf_wire.specs.Fields.{Window}
use Rattle.file_grammar.specs.declared.parts.Part.TheVariants.{Block as BlockPart}
use Rattle.file_grammar.specs.Messages.{Fields}
use Rattle.file_grammar.specs.Readings.{message_at}
use Rattle.file_grammar.specs.Sections.{Block, block_with}
use Rattle.boxed_exact.specs.declared.fields.Payload.{Payload}
use Rattle.boxed_check.proofs.SurveyWalk.{survey_all, survey_begin, survey_on}
use Rattle.boxed_check.proofs.surveying.survey_blocks.Goals as goal

pub loop-field-init : goal.loop-field-init
loop-field-init g c = let m = g.C.CheckClass in record {
  blocks = λ fields e are. survey_begin m.class m.boxing c.args.bytes.now fields c.args.blocks.now.items c.args.walk.now e are;
  part = c.requires.part;
  window = c.requires.window;
  same = c.requires.same;
  few = omega arith;
}

pub loop-field-preserved : goal.loop-field-preserved
loop-field-preserved g c =
    let m = g.C.CheckClass in
    let f = c.in-Some.field in
    let i = c.in-Some.ensures.inside in
    let blocks : List Payload = c.loop-field.blocks.items in
    let added = c.in_ok-push.ensures.items ∙ ap (λ (p : Payload). blocks ++ p ∷ []) c.span_of.ensures in
    let counted = subst (λ (v : Window). (fields : Fields) (at : ℕ) (block : Block) → message_at (BlockPart m.class) v ≡ Ok fields → block_with at fields ≡ Some block → c.count_block-count.result ≡ length block.entries) c.new.ensures.range c.count_block-count.ensures.count in
    record {
      blocks = λ fields e are.
          survey_on m.class m.boxing c.args.bytes.now fields c.args.blocks.now.items blocks c.push.new.self.items c.loop-field.count c.count_block-count.result c.loop-field.walk c.next.new.self f (c.loop-field.invariant.blocks fields e are) c.in-Some.ensures.fields
          c.loop-field.invariant.part c.loop-field.invariant.same (record { ordered = i.0.ordered; within = subst (λ (bs : List ℕ). f.to ≤ length bs) c.loop-field.invariant.same (omega (arith, i.0.ends, c.loop-field.invariant.window.within)) }) added counted;
      part = c.in-Some.ensures.part ∙ c.loop-field.invariant.part;
      window = c.in-Some.ensures.window;
      same = c.in-Some.ensures.same.0 ∙ c.loop-field.invariant.same;
      few = omega (arith, c.loop-field.invariant.few, c.count_block-count.ensures.few, i.0.place, i.0.starts, i.0.ordered, i.1);
    }

pub returns : goal.returns
returns g c fields e are =
    let m = g.C.CheckClass in
    survey_all m.class m.boxing c.args.bytes.now fields c.args.blocks.now.items c.loop-field.blocks.items c.loop-field.count c.loop-field.walk (c.loop-field.invariant.blocks fields e are) c.in_default.ensures.fields
