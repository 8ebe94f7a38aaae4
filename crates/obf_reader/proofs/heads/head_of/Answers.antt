use Rattle.obf_reader.proofs.HeadNumbers.{head_above}
use Rattle.obf_reader.proofs.heads.head_of.Goals as goal

pub returns : goal.returns
returns c e =
    head_above c.args.head.level c.args.head.first c.args.head.last c.level_of.result c.from_number.result c.from_number-2.result c.if-head-eq0.false e c.level_of.ensures c.from_number.ensures.exact c.from_number-2.ensures.exact
