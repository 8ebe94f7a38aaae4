use Rattle.obf_wire.proofs.Places.{found_at, only_at, short_iff, long_iff}
use Rattle.obf_wire.proofs.varint.read_varint.Goals as goal

pub returns-clause-found : goal.returns-clause-found
returns-clause-found c = rw c.number_at.ensures (found_at c.args.bytes.now c.args.at c.args.end c.requires.from_in c.requires.end_in)

pub returns-clause-only : goal.returns-clause-only
returns-clause-only c n next s = rw c.number_at.ensures (only_at c.args.bytes.now c.args.at c.args.end n next c.requires.from_in c.requires.end_in s)

pub returns-clause-short : goal.returns-clause-short
returns-clause-short c = rw c.number_at.ensures (short_iff c.args.bytes.now c.args.at c.args.end)

pub returns-clause-long : goal.returns-clause-long
returns-clause-long c = rw c.number_at.ensures (long_iff c.args.bytes.now c.args.at c.args.end)
