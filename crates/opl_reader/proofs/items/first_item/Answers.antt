use Rattle.std.proofs.Common.{lit<}
use Rattle.std.proofs.lemmas.Str.Pattern.{split_once_first}
use Rattle.opl_reader.proofs.ItemSteps.{first_parts}
use Rattle.opl_reader.proofs.items.first_item.Goals as goal

pub returns-clause-items : goal.returns-clause-items
returns-clause-items c = first_parts c.args.text.now c.split_once.result (split_once_first 44 c.args.text.now c.split_once.result c.split_once.ensures.cases (lit< tt))
