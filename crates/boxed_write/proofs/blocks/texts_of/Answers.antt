use Rattle.boxed_write.proofs.Steps.{texts_step}
use Rattle.boxed_write.proofs.blocks.texts_of.Goals as goal

pub loop-rest-preserved : goal.loop-rest-preserved
loop-rest-preserved g c =
    let m = g.C.WriteClass in
    texts_step m.packing c.loop-rest.texts c.add_texts.new.texts c.loop-rest.rest.now c.record-item.result _ c.in-len1-up.len_at_least c.record-item.is c.in_ok-add_texts.ensures c.loop-rest.invariant
