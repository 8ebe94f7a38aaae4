use Rattle.opl_reader.proofs.Cuts.{split_cut}
use Rattle.opl_reader.proofs.items.first_item_of_bytes.Goals as goal

pub returns-clause-items : goal.returns-clause-items
returns-clause-items c = split_cut 44 c.args.bytes.now c.cut.result c.cut.ensures
