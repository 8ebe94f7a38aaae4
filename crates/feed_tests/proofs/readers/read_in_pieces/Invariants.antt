use Rattle.std.proofs.Common.{◌≤◌, ◌+◌, length}
use Rattle.opl_feed.specs.Feeds.{fed_length}
use Rattle.feed_tests.proofs.Pieces.{Came}
use Rattle.feed_tests.proofs.readers.read_in_pieces.Given as goal

abbrev pub invariant-loop-rest : goal.invariant-loop-rest
invariant-loop-rest l = record {
  came : Came l.bytes l.rest l.feed l.lines.items;
  room : fed_length l.feed + length l.rest ≤ length l.bytes;
}

abbrev pub decreases-loop-rest : goal.decreases-loop-rest
decreases-loop-rest l = length l.rest
