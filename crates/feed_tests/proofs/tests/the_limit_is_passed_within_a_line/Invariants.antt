use Rattle.std.proofs.Common.{◌≤◌, ◌*◌}
use Rattle.opl_feed.specs.Feeds.{fed_length}
use Rattle.feed_tests.proofs.tests.the_limit_is_passed_within_a_line.Given as goal

abbrev pub invariant-loop-turn : goal.invariant-loop-turn
invariant-loop-turn o l = fed_length l.feed ≤ 24000 * l.turn-counter
