-- Records by their classes: what holds of all holds of each class, and all classes together have the records.
use Rattle.std.proofs.Common.{List, [], ◌∷◌, ◌++◌, map}
use Rattle.std.specs.Prelude.{flat_map}
use Rattle.std.specs.List.{AllByRecursion}
use Rattle.std.specs.List.Sorted.{IsPermutation}
use Rattle.std.proofs.lemmas.List.Sorted.{IsPermutation-append_left, IsPermutation-cons, IsPermutation-middle, IsPermutation-refl, IsPermutation-sym, IsPermutation-trans}
use Rattle.live_model.specs.declared.addresses.AddrRec.{AddrRec}
use Rattle.live_model.specs.declared.records.MapRec.{MapRec}
use Rattle.live_model.specs.declared.records.PoiRec.{PoiRec}
use Rattle.live_model.specs.declared.records.RoadRec.{RoadRec}
use Rattle.live_model.specs.declared.records.BanRec.{BanRec}
use Rattle.live_model.specs.declared.records.Rec.{Rec}
use Rattle.live_model.specs.declared.records.Rec.TheVariants.{Map, Poi, Addr, Road, Ban}
use Rattle.live_model.specs.declared.rules.Rule.{Rule}
use Rattle.live_model.specs.Fits.{Fits, FitsAddress, FitsMap, FitsPoi, FitsRestriction, FitsRoad, FitsRules}
use Rattle.live_model.specs.Ids.{IsId}
use Rattle.live_model.specs.Records.{record_id}
use Rattle.boxed_laws.proofs.BlockTexts.{all_join}
use Rattle.obf_writer.specs.Classes.{address_of, addresses_in, ban_of, bans_in, map_of, maps_in, poi_of, pois_in, road_of, roads_in}

-- ---- what holds of all

-- what holds of each record's part of a class holds of all of the class
all_of : {A : Type 0} (of_class : Rec → List A) (P : Rec → Type 0) (Q : A → Type 0) → ((r : Rec) → P r → AllByRecursion Q (of_class r)) → (records : List Rec) → AllByRecursion P records → AllByRecursion Q (flat_map of_class records)
all_of of_class P Q each [] all = tt
all_of of_class P Q each (r ∷ rs) all = all_join Q (of_class r) (flat_map of_class rs) (each r all.0) (all_of of_class P Q each rs all.1)

module _ (rules : List Rule) where
  map_fits : (r : Rec) → Fits rules r → AllByRecursion (FitsMap rules) (map_of r)
  map_fits (Map m) f = (f, tt)
  map_fits (Poi p) f = tt
  map_fits (Addr a) f = tt
  map_fits (Road road) f = tt
  map_fits (Ban b) f = tt

  address_fits : (r : Rec) → Fits rules r → AllByRecursion FitsAddress (address_of r)
  address_fits (Map m) f = tt
  address_fits (Poi p) f = tt
  address_fits (Addr a) f = (f, tt)
  address_fits (Road road) f = tt
  address_fits (Ban b) f = tt

  poi_fits : (r : Rec) → Fits rules r → AllByRecursion FitsPoi (poi_of r)
  poi_fits (Map m) f = tt
  poi_fits (Poi p) f = (f, tt)
  poi_fits (Addr a) f = tt
  poi_fits (Road road) f = tt
  poi_fits (Ban b) f = tt

  road_fits : (r : Rec) → Fits rules r → AllByRecursion (FitsRoad rules) (road_of r)
  road_fits (Map m) f = tt
  road_fits (Poi p) f = tt
  road_fits (Addr a) f = tt
  road_fits (Road road) f = (f, tt)
  road_fits (Ban b) f = tt

  ban_fits : (r : Rec) → Fits rules r → AllByRecursion FitsRestriction (ban_of r)
  ban_fits (Map m) f = tt
  ban_fits (Poi p) f = tt
  ban_fits (Addr a) f = tt
  ban_fits (Road road) f = tt
  ban_fits (Ban b) f = (f, tt)

  has_id : (r : Rec) → Fits rules r → IsId (record_id r)
  has_id (Map m) f = f.id
  has_id (Poi p) f = f.id
  has_id (Addr a) f = f.id
  has_id (Road road) f = f.id
  has_id (Ban b) f = f.id

  pub record ClassesFit (records : List Rec) : Type 0 where
    pub maps : AllByRecursion (FitsMap rules) (maps_in records)
    pub addresses : AllByRecursion FitsAddress (addresses_in records)
    pub pois : AllByRecursion FitsPoi (pois_in records)
    pub roads : AllByRecursion (FitsRoad rules) (roads_in records)
    pub bans : AllByRecursion FitsRestriction (bans_in records)

  -- records that fit do so by their classes
  pub classes_fit : (records : List Rec) → FitsRules rules records → ClassesFit records
  classes_fit records fit = record {
    maps = all_of map_of (Fits rules) (FitsMap rules) map_fits records fit;
    addresses = all_of address_of (Fits rules) FitsAddress address_fits records fit;
    pois = all_of poi_of (Fits rules) FitsPoi poi_fits records fit;
    roads = all_of road_of (Fits rules) (FitsRoad rules) road_fits records fit;
    bans = all_of ban_of (Fits rules) FitsRestriction ban_fits records fit;
  }

  -- they are of objects
  pub ids_of : (records : List Rec) → FitsRules rules records → AllByRecursion (λ r. IsId (record_id r)) records
  ids_of [] fit = tt
  ids_of (r ∷ rs) fit = (has_id r fit.0, ids_of rs fit.1)

-- ---- all classes together

-- the records of each class, class by class
abbrev pub side_by_side : List MapRec → List AddrRec → List PoiRec → List RoadRec → List BanRec → List Rec
side_by_side maps addresses pois roads bans = map Map maps ++ map Addr addresses ++ map Poi pois ++ map Road roads ++ map Ban bans

-- an item that stands between two lists may stand before both
before : {A : Type 0} (xs : List A) (x : A) (ys others : List A) → IsPermutation (x ∷ others) (x ∷ (xs ++ ys)) → IsPermutation (x ∷ others) (xs ++ x ∷ ys)
before xs x ys others moved = IsPermutation-trans (x ∷ others) (x ∷ (xs ++ ys)) (xs ++ x ∷ ys) moved (IsPermutation-sym (xs ++ x ∷ ys) (x ∷ (xs ++ ys)) (IsPermutation-middle xs x ys))

-- the same with lists behind
module _ (x : Rec) (a b : List Rec) where
  back : IsPermutation (x ∷ (a ++ b)) (a ++ x ∷ b)
  back = IsPermutation-sym (a ++ x ∷ b) (x ∷ (a ++ b)) (IsPermutation-middle a x b)

  back_one : (c : List Rec) → IsPermutation (x ∷ (a ++ b ++ c)) (a ++ (x ∷ b) ++ c)
  back_one c = IsPermutation-append_left c (x ∷ (a ++ b)) (a ++ x ∷ b) back

  back_two : (c d : List Rec) → IsPermutation (x ∷ (a ++ b ++ c ++ d)) (a ++ (x ∷ b) ++ c ++ d)
  back_two c d = IsPermutation-append_left d (x ∷ (a ++ b ++ c)) (a ++ (x ∷ b) ++ c) (back_one c)

  back_three : (c d e : List Rec) → IsPermutation (x ∷ (a ++ b ++ c ++ d ++ e)) (a ++ (x ∷ b) ++ c ++ d ++ e)
  back_three c d e = IsPermutation-append_left e (x ∷ (a ++ b ++ c ++ d)) (a ++ (x ∷ b) ++ c ++ d) (back_two c d)

-- the records by their classes
abbrev pub by_side : List Rec → List Rec
by_side records = side_by_side (maps_in records) (addresses_in records) (pois_in records) (roads_in records) (bans_in records)

-- each record is of one class
pub by_classes : (records : List Rec) → IsPermutation records (by_side records)
by_classes [] = IsPermutation-refl []
by_classes (r ∷ rs) = IsPermutation-trans (r ∷ rs) (r ∷ by_side rs) (by_side (r ∷ rs)) (IsPermutation-cons r rs (by_side rs) (by_classes rs)) (put r)
  where
    maps : List Rec
    maps = map Map (maps_in rs)

    addresses : List Rec
    addresses = map Addr (addresses_in rs)

    pois : List Rec
    pois = map Poi (pois_in rs)

    roads : List Rec
    roads = map Road (roads_in rs)

    bans : List Rec
    bans = map Ban (bans_in rs)

    put : (r : Rec) → IsPermutation (r ∷ by_side rs) (by_side (r ∷ rs))
    put (Map m) = IsPermutation-refl (Map m ∷ by_side rs)
    put (Addr a) = back_three (Addr a) maps addresses pois roads bans
    put (Poi p) = back_two (Poi p) (maps ++ addresses) pois roads bans
    put (Road road) = back_one (Road road) (maps ++ addresses ++ pois) roads bans
    put (Ban b) = back (Ban b) (maps ++ addresses ++ pois ++ roads) bans
