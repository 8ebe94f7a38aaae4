-- Laws of packed sections of roads and of restrictions.
use Rattle.live_model.specs.Fits.{FitsRoad}
use Rattle.boxed_laws.specs.Laws as L
use Rattle.road_section.specs.Roads.{HasId, road_packing}
use Rattle.road_section.specs.Restrictions.{IsNumbered, ban_packing}
use Rattle.road_section.specs.RoadLawful.{road_class}
use Rattle.road_section.specs.BanLawful.{FitsAnyRules, ban_class}

-- what is packed of records that fit the rules is a section of these records, in which no rule fails
pub record PackedLaw : Type 0 where
  pub roads : L.PackedLaw road_class FitsRoad
  pub bans : L.PackedLaw ban_class FitsAnyRules

-- what is packed of records that fit the rules is read, in memory, to these records, and no rule fails
pub record PackedReadLaw : Type 0 where
  pub roads : L.PackedReadLaw road_class FitsRoad
  pub bans : L.PackedReadLaw ban_class FitsAnyRules

-- each record stands in one block, as often as it was given
pub record KeptLaw : Type 0 where
  pub roads : L.KeptLaw road_packing
  pub bans : L.KeptLaw ban_packing

-- the order in which records are given does not matter
pub record AnyOrderLaw : Type 0 where
  pub roads : L.AnyOrderLaw road_packing HasId
  pub bans : L.AnyOrderLaw ban_packing IsNumbered

-- the records of a section, however it is packed, fit the rules
pub record FittingLaw : Type 0 where
  pub roads : L.FittingLaw road_class FitsRoad
  pub bans : L.FittingLaw ban_class FitsAnyRules
