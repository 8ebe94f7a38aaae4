use Rattle.std.proofs.Common.{◌∙◌, sym, arith}
use Rattle.addr_read.proofs.BlockSearch.{begun}
use Rattle.addr_read.proofs.found.FoundCursor.next.Goals as goal

pub loop-view-preserved : goal.loop-view-preserved
loop-view-preserved g c =
    let s = c.loop-view.self in
    let b = c.begin_block.new.self in
    let on = begun s.here s.blocks b.here b.blocks c.in_default.ensures.first (sym c.in_default.ensures.blocks ∙ c.if-not-begin_block.ensures.next) in
    record {
      left = sym on.left ∙ c.loop-view.invariant.left;
      blocks = sym on.rest ∙ c.loop-view.invariant.blocks;
      steps = omega (arith, c.tick.ensures, on.steps, c.loop-view.invariant.steps);
    }
