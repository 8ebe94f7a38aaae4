use Rattle.std.proofs.Common.{sym, subst}
use Rattle.std.specs.List.{AllByRecursion}
use Rattle.boxed_write.proofs.Cuts.{all_cut}
use Rattle.addr_section.specs.Keyed.{IsKeyed}
use Rattle.addr_section.proofs.Steps.{blocks_on, entries_on}
use Rattle.addr_section.proofs.writing.put_blocks.Goals as goal

pub put_entry-requires : goal.put_entry-requires
put_entry-requires c = record { keys = subst (AllByRecursion IsKeyed) (sym c.block_at-cut.ensures) (all_cut IsKeyed 64 c.loop-index.index c.args.keyed.now c.requires.keys) }

pub put_block-requires : goal.put_block-requires
put_block-requires c = record { keys = subst (AllByRecursion IsKeyed) (sym c.block_at-cut.ensures) (all_cut IsKeyed 64 c.loop-index.index c.args.keyed.now c.requires.keys) }

pub loop-index-preserved : goal.loop-index-preserved
loop-index-preserved c = record {
  entries = entries_on c.args.keyed.now c.loop-index.index c.args.entries.now c.args.blocks.now c.loop-index.entries c.put_entry.new.out c.loop-index.blocks c.len.result c.block_at-cut.result.now c.block_at-cut.ensures c.loop-index.invariant.blocks c.len.ensures c.loop-index.invariant.entries c.in_ok-put_entry.ensures;
  blocks = blocks_on c.args.keyed.now c.loop-index.index c.args.blocks.now c.loop-index.blocks c.put_block.new.out c.block_at-cut.result.now c.block_at-cut.ensures c.loop-index.invariant.blocks c.in_ok-put_block.ensures;
}
