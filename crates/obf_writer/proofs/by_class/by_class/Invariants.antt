use Rattle.std.proofs.Common.{◌≡◌, ◌++◌, length}
use Rattle.boxed_write.specs.Classes.{held}
use Rattle.obf_writer.specs.Classes.{addresses_in, bans_in, maps_in, pois_in, roads_in}
use Rattle.obf_writer.proofs.by_class.by_class.Given as goal

abbrev pub invariant-loop-rest : goal.invariant-loop-rest
invariant-loop-rest l =
    (held l.by.maps.items ++ maps_in l.rest ≡ maps_in l.records)
    × (held l.by.addresses.items ++ addresses_in l.rest ≡ addresses_in l.records)
    × (held l.by.pois.items ++ pois_in l.rest ≡ pois_in l.records)
    × (held l.by.roads.items ++ roads_in l.rest ≡ roads_in l.records)
    × (held l.by.bans.items ++ bans_in l.rest ≡ bans_in l.records)

abbrev pub decreases-loop-rest : goal.decreases-loop-rest
decreases-loop-rest l = length l.rest
