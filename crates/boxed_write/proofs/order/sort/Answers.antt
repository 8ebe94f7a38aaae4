use Rattle.std.proofs.Common.{rules}
use Rattle.std.specs.Ordering.{is_lt}
use Rattle.std.proofs.lemmas.Fn.{always_returns_same}
use Rattle.std.proofs.lemmas.List.Sorted.{ranks_by}
use Rattle.boxed_write.proofs.order.sort.Goals as goal

pub returns-clause-sorted : goal.returns-clause-sorted
returns-clause-sorted g c =
    let m = g.C.WriteClass in
    c.sort_unstable_by.ensures.sorted (λ a b. is_lt (m.packing.cmp a.2.now b.2.now)) (ranks_by g.met.C.WriteClass.laws.total (λ p. p.2.now)) (always_returns_same _ _ _ (λ a r q k. search rules))
