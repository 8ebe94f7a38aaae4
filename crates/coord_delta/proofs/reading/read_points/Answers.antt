use Rattle.std.proofs.Common.{sym, subst}
use Rattle.std.proofs.lemmas.Result.{err_from_is_err_and}
use Rattle.std.specs.Prelude.{slice_range}
use Rattle.coord_delta.specs.Steps.{ArePoints, IsFirstOffGrid}
use Rattle.coord_delta.proofs.Walks.{points_more, points_all, points_off, points_break, points_break_behind}
use Rattle.coord_delta.proofs.reading.read_points.Goals as goal

pub returns-in_err-step-clause-explained : goal.returns-in_err-step-clause-explained
returns-in_err-step-clause-explained c =
    let p = err_from_is_err_and c.from_residual.result c.from_residual.ensures.1 in
    rw (p.1, p.2) (points_break c.args.bytes.now c.args.from c.loop-at.at c.args.to c.loop-at.points c.loop-at.last c.in_err-step.field-0.0 c.loop-at.invariant c.in_err-step.ensures.broken)

pub returns-in_err-read_rest-clause-explained : goal.returns-in_err-read_rest-clause-explained
returns-in_err-read_rest-clause-explained c =
    let p = err_from_is_err_and c.from_residual-in_err-read_rest.result c.from_residual-in_err-read_rest.ensures.1 in
    rw (p.1, p.2) (points_break_behind c.args.bytes.now c.args.from c.loop-at.at c.args.to c.loop-at.points c.loop-at.last c.in_ok-step.step c.in_err-read_rest.field-0.0 c.loop-at.invariant c.in_ok-step.ensures.found c.in_err-read_rest.ensures.broken)

pub returns-in_default-clause-explained : goal.returns-in_default-clause-explained
returns-in_default-clause-explained c =
    subst (IsFirstOffGrid (slice_range c.args.bytes.now c.args.from c.args.to)) (sym c.len.ensures)
    (points_off c.args.bytes.now c.args.from c.loop-at.at c.args.to c.loop-at.points c.loop-at.last c.in_ok-step.step c.loop-at.invariant c.in_ok-step.ensures.found c.in_default.ensures c.in_ok-read_rest.ensures.found)

pub loop-at-preserved : goal.loop-at-preserved
loop-at-preserved c =
    rw c.in_ok-push.ensures.ok (points_more c.args.bytes.now c.args.from c.loop-at.at c.args.to c.loop-at.points c.loop-at.last c.in_ok-step.step c.in-Some.point c.loop-at.invariant c.in_ok-step.ensures.found c.in-Some.ensures.0 c.in-Some.ensures.1)

pub returns-clause-found : goal.returns-clause-found
returns-clause-found c =
    subst (ArePoints (slice_range c.args.bytes.now c.args.from c.args.to)) (sym c.into_vec.ensures)
    (points_all c.args.bytes.now c.args.from c.loop-at.at c.args.to c.loop-at.points c.loop-at.last c.loop-at.invariant c.loop-at-test.false)
