use Rattle.addr_section.proofs.Fitting.{fitting}
use Rattle.addr_section.proofs.laws.sound_addresses_fit.Goals as goal

pub returns : goal.returns
returns c = fitting
