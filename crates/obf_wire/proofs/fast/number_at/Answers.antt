use Rattle.std.proofs.Common.{arith, ◌+◌}
use Rattle.obf_wire.proofs.Places.{one_byte_at}
use Rattle.obf_wire.proofs.KnownKeys.{two_bytes_at, three_bytes_at, four_bytes_at}
use Rattle.obf_wire.proofs.fast.number_at.Goals as goal

pub returns-then-first-lt128-clause-read : goal.returns-then-first-lt128-clause-read
returns-then-first-lt128-clause-read c =
    let read = one_byte_at c.args.bytes.now c.args.at c.args.to (omega arith) c.requires.within (omega arith) in
    cc

pub returns-then-second-lt128-clause-read : goal.returns-then-second-lt128-clause-read
returns-then-second-lt128-clause-read c =
    two_bytes_at c.args.bytes.now c.args.at c.args.to c.from-first.result c.from-second.result (omega arith) c.requires.within c.from-first.ensures c.from-second.ensures (omega arith) (omega (arith, c.type_inv.bytes c.args.at))
    (omega arith) (omega arith)

pub returns-then-third-lt128-clause-read : goal.returns-then-third-lt128-clause-read
returns-then-third-lt128-clause-read c =
    three_bytes_at c.args.bytes.now c.args.at c.args.to c.from-first.result c.from-second.result c.from-third.result (omega arith) c.requires.within c.from-first.ensures c.from-second.ensures c.from-third.ensures
    (omega arith) (omega (arith, c.type_inv.bytes c.args.at)) (omega arith) (omega (arith, c.type_inv.bytes (c.args.at + 1))) (omega arith) (omega arith)

pub returns-then-fourth-lt128-clause-read : goal.returns-then-fourth-lt128-clause-read
returns-then-fourth-lt128-clause-read c =
    four_bytes_at c.args.bytes.now c.args.at c.args.to c.from-first.result c.from-second.result c.from-third.result c.from-fourth.result (omega arith) c.requires.within
    c.from-first.ensures c.from-second.ensures c.from-third.ensures c.from-fourth.ensures
    (omega arith) (omega (arith, c.type_inv.bytes c.args.at)) (omega arith) (omega (arith, c.type_inv.bytes (c.args.at + 1))) (omega arith) (omega (arith, c.type_inv.bytes (c.args.at + 2))) (omega arith) (omega arith)
