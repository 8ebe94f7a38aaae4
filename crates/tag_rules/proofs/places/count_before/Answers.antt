use Rattle.std.proofs.Common.{rules}
use Rattle.std.specs.Ordering.{is_lt}
use Rattle.std.proofs.lemmas.Fn.{always_returns_same}
use Rattle.tag_rules.specs.Order.{stand_cmp, seen_want}
use Rattle.tag_rules.proofs.Search.{parted}
use Rattle.tag_rules.proofs.places.count_before.Goals as goal

pub returns : goal.returns
returns c =
    c.partition_point.ensures.partitioned (λ p. is_lt (stand_cmp c.args.rules.now p (seen_want c.args.wanted.now) c.args.from)) (always_returns_same _ _ _ (λ a r q k. search rules))
    (parted c.args.rules.now c.args.order.now c.requires (seen_want c.args.wanted.now) c.args.from)
