use Rattle.std.proofs.Common.{◌≡◌, length, take}
use Rattle.ref_index.specs.Pairs.{users_at}
use Rattle.ref_index.specs.Indexes.{lists_for}
use Rattle.ref_index.proofs.pairs.Pairs.lists_at.Given as goal

abbrev pub invariant-loop-key : goal.invariant-loop-key
invariant-loop-key l = l.lists.items ≡ lists_for (λ k. users_at k l.self) (take (length l.yielded) l.fn.keys.items)
