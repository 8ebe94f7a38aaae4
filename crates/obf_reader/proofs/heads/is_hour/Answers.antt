use Rattle.std.proofs.Common.{◌∙◌}
use Rattle.obf_reader.proofs.Hours.{found_hour}
use Rattle.obf_reader.proofs.heads.is_hour.Goals as goal

pub returns : goal.returns
returns c = c.is_some.ensures ∙ found_hour c.args.number c.from_number.result c.from_number.ensures.found c.from_number.ensures.exact
