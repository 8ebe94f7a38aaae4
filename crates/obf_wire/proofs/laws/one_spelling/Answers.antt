use Rattle.obf_wire.proofs.Writing.{varint_spelled, varint_only, length-varint, begins_no_other}
use Rattle.obf_wire.proofs.laws.one_spelling.Goals as goal

pub returns : goal.returns
returns c = record { spelled = varint_spelled; only = varint_only; len = length-varint; begins_no_other = begins_no_other }
