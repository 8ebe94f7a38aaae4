use Rattle.obf_wire.proofs.Writing.{varint-small}
use Rattle.obf_wire.proofs.out.Out.put_varint.Goals as goal

pub returns-then-v-lt128-clause-ok : goal.returns-then-v-lt128-clause-ok
returns-then-v-lt128-clause-ok c = rw (varint-small c.args.v c.if-v-lt128.true) c.put_byte.ensures.ok
