use Rattle.boxed_laws.proofs.PackedReadings.{any_order}
use Rattle.boxed_laws.proofs.laws.any_order_packs_the_same.Goals as goal

pub returns : goal.returns
returns g c = any_order g.C.WriteClass.packing g.C.WriteClass.fits g.met.C.WriteClass.laws
