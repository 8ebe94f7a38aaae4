use Rattle.addr_section.proofs.KeptLists.{kept}
use Rattle.addr_section.proofs.laws.lists_keep_each_record.Goals as goal

pub returns : goal.returns
returns c = kept
