use Rattle.boxed_laws.proofs.BareSections.{packed_law}
use Rattle.boxed_laws.proofs.PackedReadings.{packed_read}
use Rattle.boxed_laws.proofs.laws.packed_sections_are_good.Goals as goal

pub returns : goal.returns
returns g c = record {
  spelled = packed_law _ g.C.SectionLaws.suits g.met.C.SectionLaws.lawful g.met.C.WriteClass.laws;
  read = packed_read _ g.C.SectionLaws.suits g.met.C.SectionLaws.lawful g.met.C.WriteClass.laws;
}
