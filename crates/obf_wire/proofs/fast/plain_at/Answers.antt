use Rattle.std.proofs.Common.{◌≡◌, arith, get_or}
use Rattle.obf_wire.proofs.KnownKeys.{expected_is}
use Rattle.obf_wire.proofs.fast.plain_at.Goals as goal

pub returns : goal.returns
returns c =
    let is : get_or c.args.bytes.now c.args.at 0 ≡ c.args.key = omega (arith, c.if-bytes-at.false) in
    expected_is (record { bytes = c.args.bytes.now; place = c.args.at; end = c.args.to }) c.args.key c.from.result c.in-Some.value c.in-Some.from c.length_of-length.result (omega arith) c.requires.within is c.requires.low c.requires.short c.in-Some.ensures.read c.in-Some.ensures.inside.0 c.length_of-length.ensures (omega (arith, c.in-Some.ensures.inside.1, c.if-to-from.false)) c.from.ensures
