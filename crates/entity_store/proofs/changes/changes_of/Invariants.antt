use Rattle.std.proofs.Common.{◌≡◌, length, map, take}
use Rattle.entity_store.specs.Changes.{change}
use Rattle.entity_store.proofs.changes.changes_of.Given as goal

abbrev pub invariant-loop-line : goal.invariant-loop-line
invariant-loop-line l = l.changes.items ≡ map change (take (length l.yielded) l.fn.lines.items)
