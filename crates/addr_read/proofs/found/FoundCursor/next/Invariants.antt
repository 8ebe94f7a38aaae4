use Rattle.std.proofs.Common.{◌≡◌, ◌+◌, length, drop}
use Rattle.boxed_read.specs.Steps.{still_left}
use Rattle.addr_read.specs.Finding.{to_search}
use Rattle.addr_read.proofs.found.FoundCursor.next.Given as goal

-- what is left is what was, and so is what has still to be read for it
abbrev pub invariant-loop-view : goal.invariant-loop-view
invariant-loop-view g l = record {
  left : still_left l.self ≡ still_left l.initial.self;
  blocks : drop (to_search l.self.here l.self.blocks) l.self.blocks ≡ drop (to_search l.initial.self.here l.initial.self.blocks) l.initial.self.blocks;
  steps : l.steps + to_search l.self.here l.self.blocks ≡ l.initial.steps + to_search l.initial.self.here l.initial.self.blocks;
}

abbrev pub decreases-loop-view : goal.decreases-loop-view
decreases-loop-view g l = length l.self.blocks
