use Rattle.std.proofs.Common.{◌≡◌, ◌++◌, length, not}
use Rattle.std.specs.Prelude.{filter}
use Rattle.live_model.specs.Ids.{ordinal}
use Rattle.ref_index.specs.Pairs.{has_any, users_at}
use Rattle.ref_index.proofs.index.put_unnamed.Given as goal

-- the users so far, and the unnamed ones of those that are left
abbrev pub invariant-loop-user : goal.invariant-loop-user
invariant-loop-user l =
    l.kept.items ++ filter (λ u. not (has_any (users_at (ordinal u) l.named))) l.rest ≡ l.initial.kept.items ++ filter (λ u. not (has_any (users_at (ordinal u) l.named))) l.users

abbrev pub decreases-loop-user : goal.decreases-loop-user
decreases-loop-user l = length l.rest
