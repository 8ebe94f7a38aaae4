use Rattle.boxed_write.proofs.Steps.{placed_step, placed_more}
use Rattle.boxed_write.proofs.order.placed.Goals as goal

pub loop-rest-preserved : goal.loop-rest-preserved
loop-rest-preserved g c =
    let m = g.C.WriteClass in record {
      done = placed_step c.loop-rest.placed.items c.push.new.self.items _ c.loop-rest.rest.now _ c.in-len1-up.len_at_least c.record-item.is c.in_ok-push.ensures.items c.loop-rest.invariant.done;
      placed = placed_more m.packing c.loop-rest.placed.items c.push.new.self.items _ c.in_ok-push.ensures.items c.loop-rest.invariant.placed c.rect-rect.ensures c.code.ensures;
    }
