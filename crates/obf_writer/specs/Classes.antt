-- Records by their classes.
use Rattle.std.specs.Prelude.{◌≡◌, List, [], ◌∷◌, flat_map}
use Rattle.live_model.specs.declared.addresses.AddrRec.{AddrRec}
use Rattle.live_model.specs.declared.records.MapRec.{MapRec}
use Rattle.live_model.specs.declared.records.PoiRec.{PoiRec}
use Rattle.live_model.specs.declared.records.RoadRec.{RoadRec}
use Rattle.live_model.specs.declared.records.BanRec.{BanRec}
use Rattle.live_model.specs.declared.records.Rec.{Rec}
use Rattle.live_model.specs.declared.records.Rec.TheVariants.{Map, Poi, Addr, Road, Ban}
use Rattle.boxed_write.specs.Classes.{held}
use Rattle.obf_writer.specs.declared.by_class.ByClass.{ByClass}

-- the record, where it is of the map
abbrev pub map_of : Rec → List MapRec
map_of (Map m) = m ∷ []
map_of r = []

-- where it is an address
abbrev pub address_of : Rec → List AddrRec
address_of (Addr a) = a ∷ []
address_of r = []

-- where it is a point of interest
abbrev pub poi_of : Rec → List PoiRec
poi_of (Poi p) = p ∷ []
poi_of r = []

-- where it is a road
abbrev pub road_of : Rec → List RoadRec
road_of (Road road) = road ∷ []
road_of r = []

-- where it is a restriction
abbrev pub ban_of : Rec → List BanRec
ban_of (Ban b) = b ∷ []
ban_of r = []

-- the records of each class, in their order
abbrev pub maps_in : List Rec → List MapRec
maps_in records = flat_map map_of records

abbrev pub addresses_in : List Rec → List AddrRec
addresses_in records = flat_map address_of records

abbrev pub pois_in : List Rec → List PoiRec
pois_in records = flat_map poi_of records

abbrev pub roads_in : List Rec → List RoadRec
roads_in records = flat_map road_of records

abbrev pub bans_in : List Rec → List BanRec
bans_in records = flat_map ban_of records

-- these are the records by their classes
pub record AreByClass (by : ByClass) (records : List Rec) : Type 0 where
  pub maps : held by.maps.items ≡ maps_in records
  pub addresses : held by.addresses.items ≡ addresses_in records
  pub pois : held by.pois.items ≡ pois_in records
  pub roads : held by.roads.items ≡ roads_in records
  pub bans : held by.bans.items ≡ bans_in records
