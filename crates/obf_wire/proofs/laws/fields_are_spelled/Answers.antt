use Rattle.obf_wire.proofs.NextField.{next_of_spelled, spelled_of_next, section_is}
use Rattle.obf_wire.proofs.laws.fields_are_spelled.Goals as goal

pub returns : goal.returns
returns c = record { next = next_of_spelled; spelled = spelled_of_next; section = section_is }
