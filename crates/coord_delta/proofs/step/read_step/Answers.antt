use Rattle.std.proofs.Common.{sym, arith}
use Rattle.std.proofs.lemmas.Result.{err_from_is_err_and}
use Rattle.std.proofs.lemmas.Int.{to_z-of_z}
use Rattle.coord_delta.proofs.Walks.{break_at_x, break_at_y, step_at}
use Rattle.coord_delta.proofs.step.read_step.Goals as goal

pub returns-in_err-x-clause-broken : goal.returns-in_err-x-clause-broken
returns-in_err-x-clause-broken c =
    let p = err_from_is_err_and c.from_residual.result c.from_residual.ensures.1 in
    rw (p.1, p.2) (break_at_x c.args.bytes.now c.args.at c.args.end c.in_err-x.field-0.0 c.requires.from_in (sym c.in_err-x.ensures.exact))

pub returns-in_err-y-clause-broken : goal.returns-in_err-y-clause-broken
returns-in_err-y-clause-broken c =
    let p = err_from_is_err_and c.from_residual-in_err-y.result c.from_residual-in_err-y.ensures.1 in
    rw (p.1, p.2) (break_at_y c.args.bytes.now c.args.at c.args.end c.in_ok-x.x c.in_ok-x.between c.in_err-y.field-0.0 c.in_ok-x.ensures.found (sym c.in_err-y.ensures.exact))

pub returns-clause-found : goal.returns-clause-found
returns-clause-found c =
    step_at c.args.bytes.now c.args.at c.args.end c.in_ok-x.x c.in_ok-x.between c.in_ok-y.y _ c.in_ok-x.ensures.found c.in_ok-y.ensures.found (grind (arith, to_z-of_z, c.unzigzag.ensures)) (grind (arith, to_z-of_z, c.unzigzag-2.ensures))
