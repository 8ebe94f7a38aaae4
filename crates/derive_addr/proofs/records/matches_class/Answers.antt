use Rattle.derive_addr.proofs.CalledBy.{not_called, is_called_by}
use Rattle.derive_addr.proofs.records.matches_class.Goals as goal

pub returns-in-Some : goal.returns-in-Some
returns-in-Some c = is_called_by c.args.wanted c.args.rules.now c.args.entity.now c.new.result c.new.ensures _ _ c.in-Some.ensures

pub returns-in-None : goal.returns-in-None
returns-in-None c = not_called c.args.wanted c.args.rules.now c.args.entity.now c.new.result c.new.ensures c.in-None.ensures
