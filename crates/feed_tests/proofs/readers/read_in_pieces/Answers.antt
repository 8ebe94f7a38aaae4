use Rattle.std.proofs.Common.{rules, sym, [], append-nil}
use Rattle.opl_reader.specs.Readings.{IsCause}
use Rattle.feed_tests.proofs.Pieces.{cause_of}
use Rattle.feed_tests.proofs.readers.read_in_pieces.Goals as goal

pub returns-in_err-piece-clause-broken : goal.returns-in_err-piece-clause-broken
returns-in_err-piece-clause-broken c =
    let cause : IsCause c.args.bytes.now c.in_err-piece.field-0.0 =
    cause_of c.args.bytes.now c.loop-rest.rest.now c.split_at.result.0.now c.split_at.result.1.now c.loop-rest.feed c.loop-rest.lines.items c.in_err-piece.field-0.0 (search rules) c.in_err-piece.ensures.first c.loop-rest.invariant.came
    in
    search rules

pub returns-in_err-piece-2-clause-broken : goal.returns-in_err-piece-2-clause-broken
returns-in_err-piece-2-clause-broken c =
    let cause : IsCause c.args.bytes.now c.in_err-piece-2.field-0.0 =
    cause_of c.args.bytes.now c.loop-rest.rest.now c.loop-rest.rest.now [] c.loop-rest.feed c.loop-rest.lines.items c.in_err-piece-2.field-0.0 (sym (append-nil c.loop-rest.rest.now))
    c.in_err-piece-2.ensures.first c.loop-rest.invariant.came
    in
    search rules
