use Rattle.std.proofs.Common.{◌≡◌, ◌++◌, flat_map}
use Rattle.ref_index.specs.Pairs.{pairs_in}
use Rattle.ref_index.proofs.pairs.pairs_of.Given as goal

-- the pairs so far, and those of the objects that are left
abbrev pub invariant-loop-entity : goal.invariant-loop-entity
invariant-loop-entity l = l.pairs.items ++ flat_map pairs_in l.entity-iterator ≡ flat_map pairs_in l.store.entities
