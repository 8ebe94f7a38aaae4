use Rattle.query_merge.proofs.FoundInFile.{prefix_due, prefix_found}
use Rattle.query_merge.proofs.finding.with_prefix.Goals as goal

pub returns-clause-left : goal.returns-clause-left
returns-clause-left c text is = prefix_found c.args.image.now c.bytes.ensures.file text c.args.key.now c.addresses.result c.by_prefix.result is c.addresses.ensures.records c.by_prefix.ensures.found

pub returns-clause-due : goal.returns-clause-due
returns-clause-due c text is = prefix_due c.args.image.now c.bytes.ensures.file text c.args.key.now c.addresses.result c.by_prefix.result is c.addresses.ensures.blocks c.by_prefix.ensures.due
