use Rattle.std.proofs.Common.{sym, subst}
use Rattle.std.specs.List.{AllByRecursion}
use Rattle.boxed_write.specs.Classes.{IsPlaced, items_of}
use Rattle.boxed_write.proofs.Cuts.{all_cut}
use Rattle.boxed_write.proofs.Sections.{bytes_on, leaves_on, placed_cut}
use Rattle.boxed_write.proofs.writing.put_blocks.Goals as goal

pub put_sorted-requires-clause-fits : goal.put_sorted-requires-clause-fits
put_sorted-requires-clause-fits g c =
    let m = g.C.WriteClass in
    subst (λ rs. AllByRecursion m.fits (items_of rs)) (sym c.block_at.ensures) (placed_cut m.fits 64 c.loop-index.index c.args.order.now c.requires.fits)

pub put_sorted-requires-clause-placed : goal.put_sorted-requires-clause-placed
put_sorted-requires-clause-placed g c =
    let m = g.C.WriteClass in
    subst (AllByRecursion (IsPlaced m.packing)) (sym c.block_at.ensures) (all_cut (IsPlaced m.packing) 64 c.loop-index.index c.args.order.now c.requires.placed)

pub loop-index-preserved : goal.loop-index-preserved
loop-index-preserved g c =
    let m = g.C.WriteClass in
    let order = c.args.order.now in
    let start = c.args.out.now in
    record {
      leaves = leaves_on m.packing order c.loop-index.index start c.loop-index.out c.loop-index.leaves.items c.push.new.self.items c.in_ok-put_sorted.field-0 c.block_at.result.now c.block_at.ensures c.loop-index.invariant.leaves c.loop-index.invariant.bytes c.in_ok-push.ensures.items c.in_ok-put_sorted.ensures.leaf;
      bytes = bytes_on m.packing order c.loop-index.index start c.loop-index.out c.put_sorted.new.out c.block_at.result.now c.block_at.ensures c.loop-index.invariant.bytes c.in_ok-put_sorted.ensures.bytes;
    }
