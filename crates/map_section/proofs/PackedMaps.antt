-- The laws of packed sections, of map records.
use Rattle.boxed_laws.proofs.BareSections as B
use Rattle.boxed_laws.proofs.FittingRecords as F
use Rattle.boxed_laws.proofs.KeptItems as K
use Rattle.boxed_laws.proofs.PackedReadings as R
use Rattle.boxed_write.specs.Classes.{IsPackedBy}
use Rattle.live_model.specs.Fits.{FitsMap}
use Rattle.map_section.specs.Packed.{HasId, map_packing}
use Rattle.map_section.specs.MapOrder.{map_laws, map_total, same_record}
use Rattle.map_section.specs.MapLawful.{map_class, map_lawful}
use Rattle.map_section.specs.Laws.{AnyOrderLaw, FittingLaw, KeptLaw, PackedLaw, PackedReadLaw}

pub packed_law : PackedLaw
packed_law = B.packed_law map_class FitsMap map_lawful map_laws

pub packed_read : PackedReadLaw
packed_read = R.packed_read map_class FitsMap map_lawful map_laws

pub kept : KeptLaw
kept = K.kept map_packing

-- an object of each record is enough for one place in a section
has_id : IsPackedBy map_packing HasId
has_id = record { total = map_total; same = same_record }

pub any_order : AnyOrderLaw
any_order = R.any_order map_packing HasId has_id

pub fitting : FittingLaw
fitting = F.fitting map_class FitsMap map_lawful
