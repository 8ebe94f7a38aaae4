use Rattle.std.proofs.Common.{ℕ, pos, rules}
use Rattle.std.proofs.lemmas.List.Sorted.{answers_always, IsNonDecreasingBy-from_sort_by_key}
use Rattle.live_model.specs.Ids.{Id}
use Rattle.live_model.specs.Closures.{node_id}
use Rattle.ref_index.proofs.Pairing.{turns_kept}
use Rattle.ref_index.proofs.pairs.sort.Goals as goal

pub returns-clause-rising : goal.returns-clause-rising
returns-clause-rising c = IsNonDecreasingBy-from_sort_by_key (λ (p : ℕ × Id). p.0) _ c.in_ok-sort_by_key.ensures.sorted (λ a r q k. search rules)

pub returns-clause-turns : goal.returns-clause-turns
returns-clause-turns c =
    turns_kept (node_id (pos 0)) c.args.pairs.now.items c.sort_by_key.new.self.items
    (c.sort_by_key.ensures.stable (λ (p : ℕ × Id). p.0) (answers_always _ _ _ (λ f a r q k. search rules)))
