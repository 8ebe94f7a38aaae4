use Rattle.box_tree.proofs.Order.{one_packing}
use Rattle.box_tree.proofs.laws.one_packing.Goals as goal

pub returns : goal.returns
returns c = one_packing
