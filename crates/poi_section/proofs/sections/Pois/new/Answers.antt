use Rattle.obf_wire.specs.Windows.{range_of}
use Rattle.poi_section.proofs.GroupRead.{pois_read}
use Rattle.poi_section.proofs.sections.Pois.new.Goals as goal

pub returns : goal.returns
returns c fields e = pois_read (range_of c.args.window) c.args.kept.now fields c.requires e
