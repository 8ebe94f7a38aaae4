use Rattle.std.proofs.Common.{◌≡◌, ◌++◌, length}
use Rattle.std.specs.Prelude.{flat_map}
use Rattle.addr_section.specs.Packed.{block, entries_from}
use Rattle.addr_section.proofs.Steps.{before}
use Rattle.addr_section.proofs.writing.put_blocks.Given as goal

-- an entry and the bytes of each block so far
abbrev pub invariant-loop-index : goal.invariant-loop-index
invariant-loop-index l = record {
  entries : l.entries ≡ l.initial.entries ++ entries_from (length l.initial.blocks) (before l.keyed 0 l.index);
  blocks : l.blocks ≡ l.initial.blocks ++ flat_map block (before l.keyed 0 l.index);
}
