use Rattle.std.proofs.Common.{◌≡◌, ◌++◌, length, map}
use Rattle.std.specs.Prelude.{filter_map}
use Rattle.live_model.specs.Records.{language_and_name, named_address, names_of}
use Rattle.derive_addr.proofs.named.put_named.Given as goal

-- the names that are still to come, after what was put
abbrev pub invariant-loop-rest : goal.invariant-loop-rest
invariant-loop-rest l =
    l.records.items ++ map (named_address l.entity.id l.kind l.point) (filter_map language_and_name l.rest)
    ≡ l.initial.records.items ++ map (named_address l.entity.id l.kind l.point) (names_of l.entity)

abbrev pub decreases-loop-rest : goal.decreases-loop-rest
decreases-loop-rest l = length l.rest
