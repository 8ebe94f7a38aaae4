use Rattle.boxed_write.specs.Classes.{IsPlaced, held}
use Rattle.boxed_write.proofs.Sorting.{all_moved}
use Rattle.boxed_write.proofs.Orders.{placed_sorted}
use Rattle.boxed_write.proofs.order.packed.Goals as goal

pub returns-clause-order : goal.returns-clause-order
returns-clause-order g c =
    placed_sorted g.met.C.WriteClass.laws (held c.args.records.now) c.in_ok-order.order.items c.sort_placed.new.placed.items c.requires c.in_ok-order.ensures.records c.in_ok-order.ensures.placed c.sort_placed.ensures.all
    c.sort_placed.ensures.sorted

pub returns-clause-placed : goal.returns-clause-placed
returns-clause-placed g c = all_moved (IsPlaced g.C.WriteClass.packing) c.in_ok-order.order.items c.sort_placed.new.placed.items c.sort_placed.ensures.all c.in_ok-order.ensures.placed
