use Rattle.run_model.proofs.AskedChanges.{change_asked}
use Rattle.run_model.proofs.request.read_change.Goals as goal

pub returns-clause-read : goal.returns-clause-read
returns-clause-read c =
    change_asked c.args.rules.now c.args.base.now c.args.stamp.now c.args.output.now c.args.changes.now c.in-Some.earlier.now c.in-Some.last.now
    c.as_str-rules.result.now c.as_str-base.result.now c.as_str.result.now c.as_str-output.result.now c.as_str-last.result.now c.in-Some-read_hour.hour c.read_hour.result
    c.in-Some.ensures.cases.0 c.as_str-rules.ensures c.as_str-base.ensures c.as_str.ensures c.as_str-output.ensures c.as_str-last.ensures c.read_hour.ensures.hour c.in-Some-read_hour.is
