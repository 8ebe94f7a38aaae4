use Rattle.std.proofs.Common.{◌≡◌, length, map, take}
use Rattle.live_model.specs.Records.{poi_record}
use Rattle.derive_poi.proofs.records.records_in.Given as goal

abbrev pub invariant-loop-category : goal.invariant-loop-category
invariant-loop-category l = l.records.items ≡ map (poi_record l.entity l.point) (take (length l.yielded) l.fn.categories.items)
