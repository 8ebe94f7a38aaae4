use Rattle.addr_section.proofs.AnyOrder.{any_order}
use Rattle.addr_section.proofs.laws.any_order_packs_the_same.Goals as goal

pub returns : goal.returns
returns c = any_order
