-- What a cursor of hits has before it.
use Rattle.std.specs.Prelude.{ℕ, ◌+◌, List, [], ◌++◌, length, map, Option, Some, None}
use Rattle.live_model.specs.declared.addresses.AddrRec.{AddrRec}
use Rattle.live_model.specs.declared.records.Rec.{Rec}
use Rattle.live_model.specs.declared.records.Rec.TheVariants.{Map, Poi, Addr, Road, Ban}
use Rattle.live_model.specs.declared.records.RoadRec.{RoadRec}
use Rattle.boxed_read.specs.Filters.{Hits as HitsOf}
use Rattle.boxed_read.specs.Steps.{Coming, still_left}
use Rattle.query_merge.specs.declared.hits.Hit.{Hit}
use Rattle.query_merge.specs.declared.hits.Hit.TheVariants as hit
use Rattle.query_merge.specs.declared.hits.Hits.{Hits}
use Rattle.query_merge.specs.declared.hits.Hits.TheVariants as hits
use Rattle.query_merge.specs.declared.hits.RoadsAndBans.{RoadsAndBans}

-- a hit as a record of its class
abbrev pub record_of : Hit → Rec
record_of (hit.Map r) = Map r
record_of (hit.Poi r) = Poi r
record_of (hit.Addr r) = Addr r
record_of (hit.Road r) = Road r
record_of (hit.Ban r) = Ban r

-- the roads of a cursor; none where it is done
abbrev pub road_hits : Option (HitsOf RoadRec) → HitsOf RoadRec
road_hits None = record { records = []; blocks = 0 }
road_hits (Some hits) = hits

-- the records that are still to come of roads and restrictions
abbrev pub roads_left : RoadsAndBans → List Rec
roads_left c = map Road (road_hits c.roads).records ++ map Ban c.bans.records

-- and how many blocks may still have to be read for them
abbrev pub road_blocks : RoadsAndBans → ℕ
road_blocks c = (road_hits c.roads).blocks + c.bans.blocks

-- of addresses
abbrev pub addresses_left : Coming AddrRec → List Rec
addresses_left c = map Addr (still_left c)

-- of any class
abbrev pub hits_left : Hits → List Rec
hits_left (hits.Maps h) = map Map h.records
hits_left (hits.Pois h) = map Poi h.records
hits_left (hits.Addresses c) = addresses_left c
hits_left (hits.Roads c) = roads_left c

-- how many blocks may still have to be read
abbrev pub blocks_left : Hits → ℕ
blocks_left (hits.Maps h) = h.blocks
blocks_left (hits.Pois h) = h.blocks
blocks_left (hits.Addresses c) = length c.blocks
blocks_left (hits.Roads c) = road_blocks c
