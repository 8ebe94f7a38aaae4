use Rattle.std.proofs.Common.{rules}
use Rattle.std.specs.Ordering.{is_lt}
use Rattle.std.proofs.lemmas.Fn.{always_returns_same}
use Rattle.std.proofs.lemmas.List.Sorted.{ranks_by}
use Rattle.addr_section.specs.Keyed.{beside_cmp}
use Rattle.addr_section.proofs.Orders.{beside_total}
use Rattle.addr_section.proofs.order.sort_keyed.Goals as goal

pub returns-clause-sorted : goal.returns-clause-sorted
returns-clause-sorted c = c.sort_unstable_by.ensures.sorted (λ a b. is_lt (beside_cmp a b)) (ranks_by beside_total (λ k. k)) (always_returns_same _ _ _ (λ a r q k. search rules))
