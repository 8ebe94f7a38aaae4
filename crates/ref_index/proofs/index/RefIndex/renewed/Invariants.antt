use Rattle.std.proofs.Common.{◌≡◌, length, take}
use Rattle.ref_index.specs.Indexes.{lists_for, renewed}
use Rattle.ref_index.proofs.index.RefIndex.renewed.Given as goal

abbrev pub invariant-loop-target : goal.invariant-loop-target
invariant-loop-target l = l.lists.items ≡ lists_for (renewed l.named l.pairs l.self.map) (take (length l.yielded) l.fn.targets.items)
