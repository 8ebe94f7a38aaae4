use Rattle.boxed_laws.proofs.MarkedSections.{marked_law, packed_marked_law}
use Rattle.boxed_laws.proofs.laws.marked_sections_are_good.Goals as goal

pub returns : goal.returns
returns g c = record {
  sound = marked_law _ g.C.SectionLaws.suits g.met.C.SectionLaws.lawful;
  packed = packed_marked_law _ g.C.SectionLaws.suits g.met.C.SectionLaws.lawful g.met.C.WriteClass.laws;
}
