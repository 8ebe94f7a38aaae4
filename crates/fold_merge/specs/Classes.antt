-- The object of a record of any class is that of the record of its class.
use Rattle.std.specs.Prelude.{◌≡◌, refl}
use Rattle.live_model.specs.Ids.{Id}
use Rattle.live_model.specs.declared.records.BanRec.{BanRec}
use Rattle.live_model.specs.declared.records.MapRec.{MapRec}
use Rattle.live_model.specs.declared.records.PoiRec.{PoiRec}
use Rattle.live_model.specs.declared.records.RoadRec.{RoadRec}
use Rattle.live_model.specs.declared.records.Rec.{Rec}
use Rattle.live_model.specs.declared.records.Rec.TheVariants.{Ban, Map, Poi, Road}
use Rattle.live_model.specs.Records.{record_id}

module _ {A : Type 0} where
  -- each record of a class, as one of any class, is of its own object
  abbrev pub IsOwn : (A → Rec) → (A → Id) → Type 0
  IsOwn as_record id_of = (item : A) → record_id (as_record item) ≡ id_of item

pub own_map : (m : MapRec) → record_id (Map m) ≡ m.id
own_map m = refl

pub own_poi : (p : PoiRec) → record_id (Poi p) ≡ p.id
own_poi p = refl

pub own_road : (r : RoadRec) → record_id (Road r) ≡ r.id
own_road r = refl

pub own_ban : (b : BanRec) → record_id (Ban b) ≡ b.id
own_ban b = refl
