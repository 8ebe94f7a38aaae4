-- The laws of packed sections, of roads and of restrictions.
use Rattle.boxed_laws.proofs.BareSections as B
use Rattle.boxed_laws.proofs.FittingRecords as F
use Rattle.boxed_laws.proofs.KeptItems as K
use Rattle.boxed_laws.proofs.PackedReadings as R
use Rattle.boxed_write.specs.Classes.{IsPackedBy}
use Rattle.live_model.specs.Fits.{FitsRoad}
use Rattle.road_section.specs.Roads.{HasId, road_packing}
use Rattle.road_section.specs.Restrictions.{IsNumbered, ban_packing}
use Rattle.road_section.specs.Orders.{ban_laws, road_laws, road_total, same_road}
use Rattle.road_section.specs.RoadLawful.{road_class, road_lawful}
use Rattle.road_section.specs.BanLawful.{FitsAnyRules, ban_class, ban_lawful}
use Rattle.road_section.specs.Laws.{AnyOrderLaw, FittingLaw, KeptLaw, PackedLaw, PackedReadLaw}

pub packed_law : PackedLaw
packed_law = record { roads = B.packed_law road_class FitsRoad road_lawful road_laws; bans = B.packed_law ban_class FitsAnyRules ban_lawful ban_laws }

pub packed_read : PackedReadLaw
packed_read = record { roads = R.packed_read road_class FitsRoad road_lawful road_laws; bans = R.packed_read ban_class FitsAnyRules ban_lawful ban_laws }

pub kept : KeptLaw
kept = record { roads = K.kept road_packing; bans = K.kept ban_packing }

-- an object of each road is enough for one place in a section
has_id : IsPackedBy road_packing HasId
has_id = record { total = road_total; same = same_road }

pub any_order : AnyOrderLaw
any_order = record { roads = R.any_order road_packing HasId has_id; bans = R.any_order ban_packing IsNumbered ban_laws }

pub fitting : FittingLaw
fitting = record { roads = F.fitting road_class FitsRoad road_lawful; bans = F.fitting ban_class FitsAnyRules ban_lawful }
