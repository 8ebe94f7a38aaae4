use Rattle.std.proofs.Common.{◌*◌}
use Rattle.boxed_write.proofs.Cuts.{short_cut}
use Rattle.addr_section.proofs.writing.block_at.Goals as goal

pub returns-then-rest-lt-MOST : goal.returns-then-rest-lt-MOST
returns-then-rest-lt-MOST c = short_cut 64 (64 * c.args.index) c.args.keyed.now c.if-rest-lt-MOST.true
