use Rattle.std.proofs.Common.{◌≤◌, ℕ, List, length}
use Rattle.obf_wire.specs.Fields.{part_of}
use Rattle.boxed_exact.specs.declared.fields.Payload.{Payload}
use Rattle.boxed_exact.specs.Sides.{beside}
use Rattle.boxed_check.specs.Sections.{AreBlocksSeen, BlocksLeft}
use Rattle.boxed_check.proofs.section.blocks_in.Given as goal

abbrev pub invariant-loop-leaf : goal.invariant-loop-leaf
invariant-loop-leaf g l = let m = g.C.CheckClass in record {
  suffices : (after : List Payload) (total : ℕ) → BlocksLeft m.class m.boxing (beside l.around) (part_of l.window.bytes.now l.at l.window.to) l.from l.rest l.blocks.items after l.count total
      → AreBlocksSeen m.class m.boxing (beside l.around) (part_of l.window.bytes.now l.from l.window.to) l.leaves l.fn.blocks.items after total;
  inside : l.at ≤ l.window.to;
  behind : l.from ≤ l.at;
}

abbrev pub decreases-loop-leaf : goal.decreases-loop-leaf
decreases-loop-leaf g l = length l.rest
