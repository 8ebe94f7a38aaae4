use Rattle.std.proofs.Common.{◌≡◌, ◌++◌, map, take}
use Rattle.live_model.specs.Ids.{ordinal}
use Rattle.ref_index.proofs.pairs.put_members.Given as goal

abbrev pub invariant-loop-member : goal.invariant-loop-member
invariant-loop-member l = l.places.items ≡ l.initial.places.items ++ map (λ m. ordinal m.target) (take l.member-index l.members)
