use Rattle.std.proofs.Common.{rules}
use Rattle.std.specs.Ordering.{is_lt}
use Rattle.std.proofs.lemmas.Fn.{always_returns_same}
use Rattle.std.proofs.lemmas.List.Sorted.{ranks_by}
use Rattle.boxed_write.specs.Classes.{placed_cmp}
use Rattle.boxed_write.proofs.Orders.{placed_total}
use Rattle.boxed_write.proofs.order.sort_placed.Goals as goal

pub returns-clause-sorted : goal.returns-clause-sorted
returns-clause-sorted g c =
    let m = g.C.WriteClass in
    c.sort_unstable_by.ensures.sorted (λ a b. is_lt (placed_cmp m.packing a b)) (ranks_by (placed_total g.met.C.WriteClass.laws) (λ p. p)) (always_returns_same _ _ _ (λ a r q k. search rules))
