use Rattle.std.proofs.Common.{List, length}
use Rattle.file_grammar.specs.AddressRules.{KeyEntry, KeyedBlock}
use Rattle.boxed_exact.specs.Sides.{beside}
use Rattle.addr_section.specs.Kept.{AreBlocksKept, AreEntriesKept}
use Rattle.addr_section.proofs.ListAsking.{BlocksLeft}
use Rattle.addr_section.proofs.list_rules.check_blocks.Given as goal

-- the blocks that are left, beside the entries that are left
abbrev pub invariant-loop-span : goal.invariant-loop-span
invariant-loop-span l = record {
  left : (keys : List KeyEntry) (its : List KeyedBlock) → AreEntriesKept l.bytes l.entries keys → AreBlocksKept l.version l.bytes l.blocks its
      → BlocksLeft l.houses (beside l.around) l.version l.bytes keys its l.named l.rest l.before l.count l.initial.first l.first;
}

abbrev pub decreases-loop-span : goal.decreases-loop-span
decreases-loop-span l = length l.rest
