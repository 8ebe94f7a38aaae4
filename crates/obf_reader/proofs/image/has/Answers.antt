use Rattle.boxed_exact.proofs.MarkSearch.{absent}
use Rattle.obf_reader.proofs.image.has.Goals as goal

pub returns-in-Err : goal.returns-in-Err
returns-in-Err c = absent c.args.marks.now c.args.ordinal c.in-Err.field-0 c.requires c.in-Err.ensures.position
