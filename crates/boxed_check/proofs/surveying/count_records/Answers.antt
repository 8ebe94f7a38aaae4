use Rattle.std.proofs.Common.{◌∙◌, arith}
use Rattle.boxed_check.proofs.SurveyWalk.{record_on}
use Rattle.boxed_check.proofs.surveying.count_records.Goals as goal

pub loop-field-preserved : goal.loop-field-preserved
loop-field-preserved c =
    let i = c.in-Some.ensures.inside in
    record {
      records = λ fields e are.
          record_on fields c.loop-field.count c.loop-field.walk c.next.new.self c.in-Some._field (c.loop-field.invariant.records fields e are) c.in-Some.ensures.fields;
      window = c.in-Some.ensures.window;
      few = omega (arith, c.loop-field.invariant.few, i.0.place, i.0.starts, i.0.ordered, i.1);
      end = c.in-Some.ensures.same.1 ∙ c.loop-field.invariant.end;
    }
