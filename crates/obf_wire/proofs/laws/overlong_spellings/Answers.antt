use Rattle.obf_wire.proofs.Overlong.{ended, unended}
use Rattle.obf_wire.proofs.laws.overlong_spellings.Goals as goal

pub returns : goal.returns
returns c = record { ended = ended; unended = unended }
