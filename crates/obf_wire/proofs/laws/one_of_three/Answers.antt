use Rattle.obf_wire.proofs.Spellings.{three}
use Rattle.obf_wire.proofs.laws.one_of_three.Goals as goal

pub returns : goal.returns
returns c = three
