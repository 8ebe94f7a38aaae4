use Rattle.obf_wire.specs.Windows.{range_of}
use Rattle.addr_read.proofs.SectionRead.{section_joined, section_read}
use Rattle.addr_read.proofs.section.Section.new.Goals as goal

pub returns-clause-blocks : goal.returns-clause-blocks
returns-clause-blocks c fields e = section_read c.args.version (range_of c.args.window) c.args.kept.now fields c.requires e

pub returns-clause-records : goal.returns-clause-records
returns-clause-records c fields e = section_joined c.args.version (range_of c.args.window) c.args.kept.now fields c.requires e
