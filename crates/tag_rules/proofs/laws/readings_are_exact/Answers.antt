use Rattle.tag_rules.proofs.RuleLaw.{one_reading, read_has_none, unbroken_is_read}
use Rattle.tag_rules.proofs.laws.readings_are_exact.Goals as goal

pub returns : goal.returns
returns c = record {
  one = one_reading c.args.bytes.now;
  unbroken = read_has_none c.args.bytes.now;
  spelled = unbroken_is_read c.args.bytes.now;
}
