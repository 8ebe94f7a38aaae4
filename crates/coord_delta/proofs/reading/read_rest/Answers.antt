use Rattle.std.proofs.lemmas.Result.{err_from_is_err_and}
use Rattle.coord_delta.proofs.Walks.{pairs_more, pairs_break}
use Rattle.coord_delta.proofs.reading.read_rest.Goals as goal

pub returns-in_err-at-clause-broken : goal.returns-in_err-at-clause-broken
returns-in_err-at-clause-broken c =
    let p = err_from_is_err_and c.from_residual.result c.from_residual.ensures.1 in
    rw (p.1, p.2) (pairs_break c.args.bytes.now c.args.from c.loop-at.at c.args.to c.in_err-at.field-0.0 c.loop-at.invariant c.in_err-at.ensures.broken)

pub loop-at-preserved : goal.loop-at-preserved
loop-at-preserved c = pairs_more c.args.bytes.now c.args.from c.loop-at.at c.args.to c.in_ok-at.field-0 c.loop-at.invariant c.in_ok-at.ensures.found
