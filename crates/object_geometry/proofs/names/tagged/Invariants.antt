use Rattle.std.proofs.Common.{◌≡◌, length}
use Rattle.live_model.specs.Records.{tagged}
use Rattle.object_geometry.proofs.names.tagged.Given as goal

abbrev pub invariant-loop-rest : goal.invariant-loop-rest
invariant-loop-rest l = tagged l.key l.rest ≡ tagged l.key l.entity.tags

abbrev pub decreases-loop-rest : goal.decreases-loop-rest
decreases-loop-rest l = length l.rest
