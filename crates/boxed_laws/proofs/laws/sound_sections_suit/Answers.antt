use Rattle.boxed_laws.proofs.FittingRecords.{fitting}
use Rattle.boxed_laws.proofs.laws.sound_sections_suit.Goals as goal

pub returns : goal.returns
returns g c = fitting _ g.C.SectionLaws.suits g.met.C.SectionLaws.lawful
