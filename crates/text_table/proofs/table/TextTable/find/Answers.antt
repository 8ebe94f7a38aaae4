use Rattle.text_table.proofs.Rising.{absent, get_there}
use Rattle.text_table.proofs.table.TextTable.find.Goals as goal

pub returns-in-Ok-clause-place : goal.returns-in-Ok-clause-place
returns-in-Ok-clause-place c = get_there c.args.text.now c.args.self.now c.in-Ok.place c.in-Ok.ensures.place

pub returns-in-Err-clause-place : goal.returns-in-Err-clause-place
returns-in-Err-clause-place c = absent c.args.text.now c.args.self.now c.in-Err.field-0 c.in-Err.ensures.place
