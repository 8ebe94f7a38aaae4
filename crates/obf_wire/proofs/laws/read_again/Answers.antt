use Rattle.obf_wire.proofs.Writing.{varint_again}
use Rattle.obf_wire.proofs.laws.read_again.Goals as goal

pub returns : goal.returns
returns c = varint_again
