use Rattle.std.proofs.Common.{◌≡◌, ◌++◌, length, map, take}
use Rattle.ref_index.proofs.pairs.put_each.Given as goal

abbrev pub invariant-loop-target : goal.invariant-loop-target
invariant-loop-target l = l.pairs.items ≡ l.initial.pairs.items ++ map (λ t. (t, l.user)) (take (length l.yielded) l.fn.targets.items)
