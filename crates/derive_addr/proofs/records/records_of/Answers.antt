use Rattle.std.proofs.Common.{◌≡◌, sym, ◌∙◌, ap, subst, IfOk}
use Rattle.live_model.specs.Geometry.{one_point}
use Rattle.object_geometry.specs.Referred.{referred_in}
use Rattle.derive_addr.proofs.CalledBy.{called, nothing}
use Rattle.derive_addr.proofs.records.records_of.Goals as goal

pub returns-then-is_nothing : goal.returns-then-is_nothing
returns-then-is_nothing c =
    let what = c.what_is_called-called.result in
    let is = c.what_is_called-called.ensures in
    c.new.ensures.items
    ∙ nothing c.args.rules.now c.args.entity.now (referred_in c.args.look.now c.args.entity.now) what.place what.street what.house is.place is.street is.house (sym c.if-is_nothing.ensures)

pub returns : goal.returns
returns c =
    let what = c.what_is_called-called.result in
    let is = c.what_is_called-called.ensures in
    subst (λ rs. IfOk c.records_in.result (λ records. records.items ≡ rs))
    (called c.args.rules.now c.args.entity.now (referred_in c.args.look.now c.args.entity.now) what.place what.street what.house is.place is.street is.house
    c.in_ok-points.points c.in-Some.point c.in_ok-points.ensures (c.in-Some.ensures ∙ ap one_point c.as_slice.ensures)) c.records_in.ensures
