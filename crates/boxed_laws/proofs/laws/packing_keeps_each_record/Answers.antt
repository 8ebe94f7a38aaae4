use Rattle.boxed_laws.proofs.KeptItems.{kept}
use Rattle.boxed_laws.proofs.laws.packing_keeps_each_record.Goals as goal

pub returns : goal.returns
returns g c = kept g.C.WriteClass.packing
