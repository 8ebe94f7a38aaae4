use Rattle.std.proofs.Common.{◌≤◌, ◌*◌, length}
use Rattle.feed_tests.proofs.tests.four_thousand_lines.Given as goal

abbrev pub invariant-loop : goal.invariant-loop
invariant-loop l = length l.text.items ≤ 6 * l.counter
