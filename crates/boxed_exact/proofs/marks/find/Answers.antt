use Rattle.boxed_exact.proofs.MarkSearch.{found, absent}
use Rattle.boxed_exact.proofs.marks.find.Goals as goal

pub returns-in-Ok : goal.returns-in-Ok
returns-in-Ok c = found c.args.ordinals.now c.args.n c.in-Ok.field-0 c.requires c.in-Ok.ensures.position

pub returns-in-Err : goal.returns-in-Err
returns-in-Err c = absent c.args.ordinals.now c.args.n c.in-Err.field-0 c.requires c.in-Err.ensures.position
