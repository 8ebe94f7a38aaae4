use Rattle.std.proofs.Common.{◌≡◌, ◌≤◌, take}
use Rattle.std.specs.Vec.{vec_capacity}
use Rattle.published_set.proofs.copies.copy_numbers.Given as goal

-- those before the place are copied
abbrev pub invariant-loop-number : goal.invariant-loop-number
invariant-loop-number l = (l.copied.items ≡ take l.number-index l.numbers) × (l.room ≤ vec_capacity l.copied)
