use Rattle.std.proofs.Common.{◌≡◌, ◌++◌, map, take}
use Rattle.live_model.specs.Ids.{ordinal}
use Rattle.live_model.specs.Closures.{node_id}
use Rattle.ref_index.proofs.pairs.put_nodes.Given as goal

abbrev pub invariant-loop-number : goal.invariant-loop-number
invariant-loop-number l = l.places.items ≡ l.initial.places.items ++ map (λ n. ordinal (node_id n)) (take l.number-index l.numbers)
