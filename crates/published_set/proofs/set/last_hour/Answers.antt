use Rattle.std.proofs.Common.{sym}
use Rattle.published_set.proofs.Files.{last_is}
use Rattle.published_set.proofs.set.last_hour.Goals as goal

pub returns-in-Some : goal.returns-in-Some
returns-in-Some c = sym (last_is c.args.history.now c.in-Some.last.now (sym c.in-Some.ensures.value))
