use Rattle.std.proofs.Common.{◌≤◌, ◌-◌, List}
use Rattle.obf_wire.specs.Fields.{part_of}
use Rattle.file_grammar.specs.AddressRules.{KeyEntry}
use Rattle.boxed_exact.specs.Sides.{beside}
use Rattle.addr_section.specs.Kept.{AreEntriesKept}
use Rattle.addr_section.proofs.OnePass.{BlocksRead}
use Rattle.addr_section.proofs.one_pass.see_blocks.Given as goal

-- the blocks so far
abbrev pub invariant-loop-at : goal.invariant-loop-at
invariant-loop-at l = record {
  so_far : (keys : List KeyEntry) → AreEntriesKept l.window.bytes.now l.fn.entries keys
      → BlocksRead l.houses (beside l.around) l.version (part_of l.window.bytes.now l.from l.window.to) keys l.named l.initial.blocks.items l.blocks.items l.before l.count l.initial.first l.first l.at;
  inside : l.at ≤ l.window.to;
}

abbrev pub decreases-loop-at : goal.decreases-loop-at
decreases-loop-at l = l.window.to - l.at
