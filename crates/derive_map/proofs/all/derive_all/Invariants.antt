use Rattle.std.proofs.Common.{◌≡◌, ◌+◌, ◌++◌, length}
use Rattle.std.specs.List.{flat_map}
use Rattle.derive_map.specs.MapRecords.{AreNamed}
use Rattle.derive_map.proofs.WholeMaps.{made}
use Rattle.derive_map.proofs.all.derive_all.Given as goal

-- the records of the objects so far with those of the objects that are left, and a step for each so far
abbrev pub invariant-loop-entity : goal.invariant-loop-entity
invariant-loop-entity g l = record {
  records : l.records.items ++ flat_map (made l.rules l.store.entities) l.entity-iterator ≡ flat_map (made l.rules l.store.entities) l.store.entities;
  named : AreNamed l.records.items;
  counted : l.steps + length l.entity-iterator ≡ l.initial.steps + length l.store.entities;
}
