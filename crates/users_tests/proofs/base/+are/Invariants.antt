use Rattle.std.proofs.Common.{length}
use Rattle.users_tests.proofs.base.+are.Given as goal

abbrev pub decreases-are : goal.decreases-are
decreases-are l = length l.ids.now
