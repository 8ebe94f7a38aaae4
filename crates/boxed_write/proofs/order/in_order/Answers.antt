use Rattle.std.proofs.Common.{sym, subst}
use Rattle.std.specs.List.{AllByRecursion}
use Rattle.std.specs.List.Sorted.{IsPermutation}
use Rattle.boxed_write.specs.Classes.{IsPlaced}
use Rattle.boxed_write.proofs.Sorting.{all_moved}
use Rattle.boxed_write.proofs.Orders.{items_sorted}
use Rattle.boxed_write.proofs.order.in_order.Goals as goal

pub returns-clause-order : goal.returns-clause-order
returns-clause-order g c =
    items_sorted g.met.C.WriteClass.laws c.args.records.now c.sort.new.records.items c.requires.fits (subst (λ rs. IsPermutation rs c.sort.new.records.items) c.in_ok-ordered.ensures.items c.sort.ensures.all)
    c.sort.ensures.sorted

pub returns-clause-placed : goal.returns-clause-placed
returns-clause-placed g c =
    let m = g.C.WriteClass in
    all_moved (IsPlaced m.packing) c.in_ok-ordered.ordered.items c.sort.new.records.items c.sort.ensures.all (subst (AllByRecursion (IsPlaced m.packing)) (sym c.in_ok-ordered.ensures.items) c.requires.placed)
