use Rattle.std.proofs.Common.{◌≡◌, ◌≤◌, map, take}
use Rattle.std.specs.Vec.{vec_capacity}
use Rattle.published_set.specs.Sets.{entry_of}
use Rattle.published_set.proofs.copies.copy_history.Given as goal

-- those before the place are copied
abbrev pub invariant-loop-published : goal.invariant-loop-published
invariant-loop-published l = (map entry_of l.copied.items ≡ map entry_of (take l.published-index l.history)) × (l.room ≤ vec_capacity l.copied)
