use Rattle.query_merge.proofs.FoundInFile.{street_due, street_found}
use Rattle.query_merge.proofs.finding.in_street.Goals as goal

pub returns-clause-left : goal.returns-clause-left
returns-clause-left c text is = street_found c.args.image.now c.bytes.ensures.file text c.args.key.now c.addresses.result c.by_street.result is c.addresses.ensures.records c.by_street.ensures.found

pub returns-clause-due : goal.returns-clause-due
returns-clause-due c text is = street_due c.args.image.now c.bytes.ensures.file text c.args.key.now c.addresses.result c.by_street.result is c.addresses.ensures.blocks c.by_street.ensures.due
