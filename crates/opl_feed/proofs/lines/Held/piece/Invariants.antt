use Rattle.std.proofs.Common.{◌≡◌, ◌≤◌, ◌+◌, ◌++◌, length, take, false}
use Rattle.opl_feed.specs.Streams.{has_line_feed}
use Rattle.opl_feed.proofs.Steps.{Goes}
use Rattle.opl_feed.proofs.lines.Held.piece.Given as goal

abbrev pub invariant-loop-first : goal.invariant-loop-first
invariant-loop-first l = record {
  goes : Goes l.fn.self.at l.fn.self.rows (l.fn.self.begun.items ++ l.fn.bytes) l.fn.lines.items l.self.at l.self.rows (l.self.begun.items ++ l.rest) l.lines.items;
  few : l.self.rows ≤ 4000000;
  line : has_line_feed l.self.begun.items ≡ false;
  room : l.self.at + length l.self.begun.items + length l.rest ≤ l.fn.self.at + length l.fn.self.begun.items + length l.fn.bytes;
  front : take (length l.fn.lines.items) l.lines.items ≡ l.fn.lines.items;
}

abbrev pub decreases-loop-first : goal.decreases-loop-first
decreases-loop-first l = length l.rest
