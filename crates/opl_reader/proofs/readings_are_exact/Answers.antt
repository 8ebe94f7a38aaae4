use Rattle.live_model.proofs.TextReadings.{one_reading, read_has_none, unbroken_is_read}
use Rattle.opl_reader.proofs.readings_are_exact.Goals as goal

pub returns : goal.returns
returns c = record {
  one = one_reading c.args.bytes.now;
  unbroken = read_has_none c.args.bytes.now;
  spelled = unbroken_is_read c.args.bytes.now;
}
