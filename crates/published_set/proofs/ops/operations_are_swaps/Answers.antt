use Rattle.published_set.proofs.Absorbing.{absorbed_law}
use Rattle.published_set.proofs.ops.operations_are_swaps.Goals as goal

pub returns : goal.returns
returns c = absorbed_law
