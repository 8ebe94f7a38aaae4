use Rattle.std.proofs.Common.{◌≡◌, None, replicate}
use Rattle.live_core.proofs.places.empty_places.Given as goal

-- so many as were put there have nothing
abbrev pub invariant-loop : goal.invariant-loop
invariant-loop g l = l.places.items ≡ replicate l.counter None
