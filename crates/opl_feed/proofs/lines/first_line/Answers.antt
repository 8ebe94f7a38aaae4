use Rattle.opl_feed.proofs.Cuts.{first_cut}
use Rattle.opl_feed.proofs.lines.first_line.Goals as goal

pub returns-clause-line : goal.returns-clause-line
returns-clause-line c = (first_cut c.args.bytes.now c.in_ok-i.i c.in_ok-i.ensures).1
