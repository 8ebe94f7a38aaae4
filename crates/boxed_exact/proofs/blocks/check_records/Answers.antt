use Rattle.std.proofs.Common.{◌≡◌, ◌+◌, ◌∙◌, ℕ, List, Option, Some, Ok, sym, ap, subst, arith}
use Rattle.std.specs.Option.{option_map}
use Rattle.obf_wire.specs.Fields.{Window, part_of}
use Rattle.file_grammar.specs.declared.parts.Part.TheVariants.{Record}
use Rattle.file_grammar.specs.Messages.{Fields}
use Rattle.file_grammar.specs.Readings.{message_at}
use Rattle.file_grammar.specs.Sections.{Block, Entry, step_of}
use Rattle.boxed_exact.specs.declared.blocks.BlockSeen.{BlockSeen}
use Rattle.boxed_exact.specs.Boxes.{box_of}
use Rattle.boxed_exact.specs.Records.{IsRecordChecked}
use Rattle.boxed_exact.specs.Sides.{beside}
use Rattle.boxed_exact.specs.Texts.{AreTexts}
use Rattle.boxed_exact.proofs.RecordWalk.{RecordsLeft, records_all, records_on}
use Rattle.boxed_exact.proofs.blocks.check_records.Goals as goal

pub loop-field-preserved : goal.loop-field-preserved
loop-field-preserved g c =
    let m = g.C.CheckClass in
    let f = c.in-Some.field in
    let side = beside c.args.around.now in
    let holder = box_of c.args.holder.now in
    let told = c.check-checked.result in
    let count : c.with_record-seen.result.count ≡ c.loop-field.seen.count + 1 = ap (λ (s : BlockSeen). s.count) c.with_record-seen.ensures in
    let see = subst (λ (w : Window). (fields : Fields) (block : Block) (prev : Option Entry) → message_at (Record m.class) w ≡ Ok fields → AreTexts c.args.texts block.texts → option_map m.key_of prev ≡ c.loop-field.before
    → IsRecordChecked m.boxing m.key_of side holder block prev (record { at = f.at; ordinal = c.loop-field.ordinal + step_of fields; fields = fields }) c.loop-field.first c.check-checked.new.first told.ordinal told.key told.in_box)
    (c.new-payload.ensures.range ∙ ap (λ (bytes : List ℕ). part_of bytes f.from f.to) (sym c.loop-field.invariant.same)) c.check-checked.ensures.checked in
    record {
      records = λ fields e are block texts.
          let r = records_on m.class m.boxing m.key_of side holder block fields c.args.first.now c.loop-field.first c.check-checked.new.first c.loop-field.ordinal told.ordinal c.args.texts c.loop-field.before told.key c.loop-field.seen told.in_box
          c.loop-field.walk c.next.new.self f (c.loop-field.invariant.records fields e are block texts) c.loop-field.invariant.part c.in-Some.ensures.fields texts see in
          subst (λ (seen : BlockSeen). RecordsLeft m.class m.boxing m.key_of side holder block fields c.args.first.now c.check-checked.new.first told.ordinal (Some told.key) seen c.next.new.self) (sym c.with_record-seen.ensures) r;
      part = c.in-Some.ensures.part ∙ c.loop-field.invariant.part;
      window = c.in-Some.ensures.window;
      same = c.in-Some.ensures.same.0 ∙ c.loop-field.invariant.same;
      few = omega (arith, count, c.loop-field.invariant.few, c.in-Some.ensures.inside.0.place, c.in-Some.ensures.inside.0.starts, c.in-Some.ensures.inside.0.ordered, c.in-Some.ensures.inside.1);
      reach = omega (arith, count, c.loop-field.invariant.reach, c.check-checked.ensures.step);
    }

pub returns : goal.returns
returns g c fields e are block texts =
    let m = g.C.CheckClass in
    records_all m.class m.boxing m.key_of (beside c.args.around.now) (box_of c.args.holder.now) block fields c.args.first.now c.loop-field.first c.loop-field.ordinal c.loop-field.before c.loop-field.seen c.loop-field.walk
    (c.loop-field.invariant.records fields e are block texts) c.in_default.ensures.fields
