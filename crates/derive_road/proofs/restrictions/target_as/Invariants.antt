use Rattle.std.proofs.Common.{◌≡◌, length}
use Rattle.live_model.specs.Records.{target_as}
use Rattle.derive_road.specs.Turns.{only_after, targets_as}
use Rattle.derive_road.proofs.restrictions.target_as.Given as goal

-- what was found decides together with the members that are still to come
abbrev pub invariant-loop-rest : goal.invariant-loop-rest
invariant-loop-rest l = only_after l.found (targets_as l.kind l.role l.rest) ≡ target_as l.kind l.role l.entity

abbrev pub decreases-loop-rest : goal.decreases-loop-rest
decreases-loop-rest l = length l.rest
