use Rattle.derive_map.proofs.FittingRecords.{drawn_fit_law}
use Rattle.derive_map.proofs.laws.drawn_records_fit.Goals as goal

pub returns : goal.returns
returns c = drawn_fit_law
