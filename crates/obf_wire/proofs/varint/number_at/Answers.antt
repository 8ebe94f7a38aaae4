use Rattle.obf_wire.proofs.Places.{one_byte_at}
use Rattle.obf_wire.proofs.varint.number_at.Goals as goal

pub returns-then-bytes-at-lt128 : goal.returns-then-bytes-at-lt128
returns-then-bytes-at-lt128 c =
    let read = one_byte_at c.args.bytes.now c.args.at c.args.end c.if-at-end.true c.requires.end_in c.if-bytes-at-lt128.true in
    cc
