use Rattle.line_texts.proofs.Exactness.{one_reading, read_has_none, unbroken_is_read}
use Rattle.line_texts.proofs.laws.readings_are_exact.Goals as goal

pub returns : goal.returns
returns g c = record {
  one = one_reading g.F.LineForm.form c.args.bytes.now;
  unbroken = read_has_none g.F.LineForm.form g.met.F.LineForm.exact c.args.bytes.now;
  spelled = unbroken_is_read g.F.LineForm.form g.met.F.LineForm.exact c.args.bytes.now;
}
