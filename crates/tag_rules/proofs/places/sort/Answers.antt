use Rattle.std.proofs.Common.{rules}
use Rattle.std.specs.Ordering.{is_lt}
use Rattle.std.proofs.lemmas.Fn.{always_returns_same}
use Rattle.tag_rules.specs.Order.{place_cmp}
use Rattle.tag_rules.proofs.Search.{places_rank}
use Rattle.tag_rules.proofs.places.sort.Goals as goal

pub returns-clause-sorted : goal.returns-clause-sorted
returns-clause-sorted c =
    c.in_ok-sort_by.ensures.sorted (λ a b. is_lt (place_cmp c.args.rules.now a b)) (places_rank c.args.rules.now) (always_returns_same _ _ _ (λ a r q k. search rules))
